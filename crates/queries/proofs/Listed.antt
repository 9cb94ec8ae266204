-- A list grows by one place at a time, at its end and by a used one: so it is as long as the count of the used places, it holds exactly
-- these, in their order, and the ids' list is the slots' read through their ids.
use mathlib.Core.Path.{◌≡◌, refl, sym, ap, ap₂, subst, ◌∙◌}
use mathlib.Core.Bool.{Bool, true, false}
use mathlib.Core.Logic.{⊎_elim}
use Prim.Native.Nat.{ℕ, zero, suc, ◌+◌, ◌≤◌, ◌<◌}
use native.Mathlib.Nat.{eq-or-lt_of_le}
use native.Mathlib.Numerals.{add-one}
use native.Mathlib.Omega.{arith}
use mathlib.Core.List.{List, [], ◌∷◌, ◌++◌, append-nil, map, map-append}
use lib.Dec.{eqb}
use lib.ListN.{length, get_or, length-append, get_or-append}
use lib.Seq.{get_or_at}
use borrow.Author.Tests.{eqb-true, eqb-false}
use Rattle.serialize.specs.Choice.{pick}
use Rattle.serialize.proofs.Choice.{by_test}
use Rattle.places.specs.Layout.{used_at, id_of}
use Rattle.places.specs.Finds.{count_one, used_count}
use Rattle.places.proofs.Ways.{marked_used, empty_unused}
use Rattle.places.proofs.Counted.{empty_counts, used_counts}
use Rattle.places.proofs.Searches.{true_false}
use Rattle.queries.specs.Queries.{value_of, of_place, listed}
use Rattle.queries.specs.Exact.{ExactlyUsed}

-- ---- what a place adds, to a list and to the count

module _ (t : List ℕ) (n : ℕ) (ids : Bool) where
  pub none_added : (i : ℕ) → used_at t i ≡ false → of_place t n ids i ≡ []
  unfolding pick
  none_added i e = ap (λ (b : Bool). pick b (value_of t n ids i ∷ []) []) e

  pub one_added : (i : ℕ) → used_at t i ≡ true → of_place t n ids i ≡ value_of t n ids i ∷ []
  unfolding pick
  one_added i e = ap (λ (b : Bool). pick b (value_of t n ids i ∷ []) []) e

  pub added_count : (i : ℕ) → length (of_place t n ids i) ≡ count_one (get_or t i 0)
  added_count i =
      by_test (eqb (get_or t i 0) 0)
      (λ b.
      let e : get_or t i 0 ≡ 0 = eqb-true (get_or t i 0) 0 b in
      ap length (none_added i (empty_unused t i e)) ∙ sym (empty_counts (get_or t i 0) e))
      (λ b.
      let u : get_or t i 0 ≡ 0 → ⊥ = eqb-false (get_or t i 0) 0 b in
      ap length (one_added i (marked_used t i u)) ∙ sym (used_counts (get_or t i 0) u))

  -- the connected count is the number of those listed
  pub listed_count : (k : ℕ) → length (listed t n ids k) ≡ used_count t k
  unfolding listed used_count
  listed_count zero = refl
  listed_count (suc k) = omega (arith, length-append (listed t n ids k) (of_place t n ids k), listed_count k, added_count k)

  pub listed_more : (i : ℕ) → listed t n ids (i + 1) ≡ listed t n ids i ++ of_place t n ids i
  unfolding listed
  listed_more i = ap (listed t n ids) (add-one i)

-- ---- the slots' list

module _ (t : List ℕ) (k : ℕ) (l : List ℕ) (w : ExactlyUsed t k l) where
  -- an empty place adds nothing
  past_empty : used_at t k ≡ false → ExactlyUsed t (suc k) l
  past_empty e = record {
    rising = w.rising;
    used = λ p h. let u = w.used p h in (omega (arith, u.0), u.1);
    every = λ i h u.
        let b : i ≤ k = omega arith in
        ⊎_elim (λ q. absurd (true_false (subst (λ (x : ℕ). used_at t x ≡ true) q u) e)) (λ s. w.every i s u) (eq-or-lt_of_le b);
  }

  -- a used one itself, at the end
  long : length (l ++ (k ∷ [])) ≡ length l + 1
  long = length-append l (k ∷ [])

  old : (p : ℕ) → p < length l → get_or (l ++ (k ∷ [])) p 0 ≡ get_or l p 0
  old p h = get_or-append l (k ∷ []) 0 p h

  new : (p : ℕ) → p ≡ length l → get_or (l ++ (k ∷ [])) p 0 ≡ k
  new p e = get_or_at l k [] 0 p (sym e)

  past_used : used_at t k ≡ true → ExactlyUsed t (suc k) (l ++ (k ∷ []))
  past_used e = record {
    rising = λ p q h b.
        let c : q ≤ length l = omega (arith, long) in
        ⊎_elim
        (λ d. let s : p < length l = omega arith in omega (arith, old p s, new q d, (w.used p s).0))
        (λ s. omega (arith, old p (omega arith), old q s, w.rising p q h s))
        (eq-or-lt_of_le c);
    used = λ p h.
        let c : p ≤ length l = omega (arith, long) in
        ⊎_elim
        (λ d. (omega (arith, new p d), subst (λ (x : ℕ). used_at t x ≡ true) (sym (new p d)) e))
        (λ s. (omega (arith, old p s, (w.used p s).0), subst (λ (x : ℕ). used_at t x ≡ true) (sym (old p s)) (w.used p s).1))
        (eq-or-lt_of_le c);
    every = λ i h u.
        let b : i ≤ k = omega arith in
        ⊎_elim
        (λ q. record { place = length l; below = omega (arith, long); here = new (length l) refl ∙ sym q })
        (λ s.
        let f = w.every i s u in
        record { place = f.place; below = omega (arith, long, f.below); here = old f.place f.below ∙ f.here })
        (eq-or-lt_of_le b);
  }

-- the list of the slots is exactly the used places, in their order
pub exactly_used : (t : List ℕ) (n k : ℕ) → ExactlyUsed t k (listed t n false k)
unfolding listed value_of pick
exactly_used t n zero = record {
  rising = λ p q h b. absurd (omega arith);
  used = λ p h. absurd (omega arith);
  every = λ i h u. absurd (omega arith);
}
exactly_used t n (suc k) =
    let l : List ℕ = listed t n false k in
    let w : ExactlyUsed t k l = exactly_used t n k in
    by_test (used_at t k)
    (λ e. rw (one_added t n false k e) (past_used t k l w e))
    (λ e. rw (none_added t n false k e, append-nil l) (past_empty t k l w e))

-- ---- the ids' list

module _ (t : List ℕ) (n : ℕ) where
  id_added : (k : ℕ) (b : Bool) → pick b (value_of t n true k ∷ []) [] ≡ map (id_of t n) (pick b (value_of t n false k ∷ []) [])
  unfolding pick value_of
  id_added k true = refl
  id_added k false = refl

  -- the ids are those of the slots, one by one
  pub ids_of_slots : (k : ℕ) → listed t n true k ≡ map (id_of t n) (listed t n false k)
  unfolding listed
  ids_of_slots zero = refl
  ids_of_slots (suc k) =
      ap₂ (λ (x y : List ℕ). x ++ y) (ids_of_slots k) (id_added k (used_at t k))
      ∙ sym (map-append (id_of t n) (listed t n false k) (of_place t n false k))

  mapped : (f : ℕ → ℕ) (l : List ℕ) (p : ℕ) → p < length l → get_or (map f l) p 0 ≡ f (get_or l p 0)
  mapped f [] p h = absurd (omega arith)
  mapped f (x ∷ l) zero h = refl
  mapped f (x ∷ l) (suc p) h = mapped f l p (omega arith)

  pub id_of_slot : (k p : ℕ) → p < length (listed t n false k) → get_or (listed t n true k) p 0 ≡ id_of t n (get_or (listed t n false k) p 0)
  id_of_slot k p h = ap (λ (l : List ℕ). get_or l p 0) (ids_of_slots k) ∙ mapped (id_of t n) (listed t n false k) p h
