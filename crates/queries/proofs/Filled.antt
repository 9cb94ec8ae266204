-- What is put next stands right after what was put, and the list so far is as long as the count: so a loop that puts one place after the
-- other leaves the list of the places that it has passed.
use mathlib.Core.Path.{◌≡◌, refl, sym, ap, ◌∙◌}
use mathlib.Core.Bool.{Bool}
use mathlib.Core.Logic.{⊎_elim}
use Prim.Native.Nat.{ℕ, zero, suc, ◌+◌, ◌≤◌, ◌<◌}
use native.Mathlib.Nat.{eq-or-lt_of_le}
use native.Mathlib.Omega.{arith}
use mathlib.Core.List.{List, [], ◌∷◌}
use lib.ListN.{length, get_or, set}
use Rattle.serialize.specs.Runs.{splice}
use Rattle.serialize.proofs.Lists.{splice_none, set_splice, splice_then, length_splice}
use Rattle.places.specs.Finds.{count_one, used_count}
use Rattle.places.proofs.Ways.{marked_used, empty_unused}
use Rattle.places.proofs.Counted.{count_turn, empty_counts, used_counts}
use Rattle.queries.specs.Queries.{value_of, of_place, listed}
use Rattle.queries.proofs.Listed.{none_added, one_added, added_count, listed_count, listed_more}

-- a count only grows
pub count_grows : (t : List ℕ) (i n : ℕ) → i ≤ n → used_count t i ≤ used_count t n
unfolding used_count
count_grows t i zero h = let e : i ≡ 0 = omega arith in omega (arith, ap (used_count t) e)
count_grows t i (suc n) h =
    ⊎_elim (λ e. omega (arith, ap (used_count t) e)) (λ l. omega (arith, count_grows t i n (omega arith))) (eq-or-lt_of_le h)

module _ (t : List ℕ) (n : ℕ) (ids : Bool) where
  -- ---- one place put at index k

  pub put_none : (i k : ℕ) (list : List ℕ) → get_or t i 0 ≡ 0
      → (k ≡ k + count_one (get_or t i 0)) × (list ≡ splice list k (of_place t n ids i))
  put_none i k list e = (
    omega (arith, empty_counts (get_or t i 0) e),
    sym (ap (splice list k) (none_added t n ids i (empty_unused t i e)) ∙ splice_none list k),
  )

  pub put_one : (i k : ℕ) (list : List ℕ) (v : ℕ) → (get_or t i 0 ≡ 0 → ⊥) → v ≡ value_of t n ids i → k < length list
      → (k + 1 ≡ k + count_one (get_or t i 0)) × (set list k v ≡ splice list k (of_place t n ids i))
  put_one i k list v u e h = (
    omega (arith, used_counts (get_or t i 0) u),
    set_splice list k v h ∙ ap (λ (x : ℕ). splice list k (x ∷ [])) e ∙ sym (ap (splice list k) (one_added t n ids i (marked_used t i u))),
  )

  -- ---- a loop that puts one place after the other: its start, its turn and its end

  -- r is list with the first i places put, and k the index after them
  abbrev pub Put : List ℕ → List ℕ → ℕ → ℕ → Type 0
  Put list r k i = (r ≡ splice list 0 (listed t n ids i)) × (k ≡ used_count t i) × (i ≤ n) × (length r ≡ length list)

  module _ (list : List ℕ) (room : used_count t n ≤ length list) where
    pub put_start : Put list list 0 0
    unfolding listed used_count
    put_start = (sym (splice_none list 0), refl, omega arith, refl)

    -- there is room for what place i adds
    pub room_left : (k i : ℕ) → k ≡ used_count t i → i < n → k + count_one (get_or t i 0) ≤ length list
    room_left k i c h =
        let e : k + count_one (get_or t i 0) ≡ used_count t (i + 1) = count_turn t i k (count_one (get_or t i 0)) c refl in
        omega (arith, count_grows t (i + 1) n (omega arith))

    module _ (r : List ℕ) (k i : ℕ) (w : Put list r k i) where
      pub put_room : i < n → k + count_one (get_or t i 0) ≤ length r
      put_room h = omega (arith, room_left k i w.1 h, w.3)

      pub put_turn : i < n → (u : List ℕ) (j : ℕ) → u ≡ splice r k (of_place t n ids i) → j ≡ k + count_one (get_or t i 0)
          → Put list u j (i + 1)
      put_turn h u j e f = (
        splice_then list r u 0 (listed t n ids i) k (of_place t n ids i) w.0 e (omega (arith, listed_count t n ids i, w.1))
            (omega (arith, added_count t n ids i, put_room h, w.3))
            ∙ ap (splice list 0) (sym (listed_more t n ids i)),
        f ∙ count_turn t i k (count_one (get_or t i 0)) w.1 refl,
        omega arith,
        ap length e ∙ length_splice r k (of_place t n ids i) (omega (arith, added_count t n ids i, put_room h)) ∙ w.3,
      )

      pub put_end : n ≤ i → r ≡ splice list 0 (listed t n ids n)
      put_end h = let e : i ≡ n = omega (arith, w.2) in w.0 ∙ ap (λ (m : ℕ). splice list 0 (listed t n ids m)) e
