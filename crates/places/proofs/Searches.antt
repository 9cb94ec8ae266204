-- What a search finds is the lowest place that passes its test, by the laws of `first_from`, and a test passes exactly for the key that it
-- asks for.
use Rattle.std.specs.Prelude.{Some, None}
use mathlib.Core.Path.{◌≡◌, refl, sym, ap, ap₂, ◌∙◌}
use mathlib.Core.Bool.{true≢false, and-eq-true_iff, Bool, true, false, ◌&&◌}
use mathlib.Core.Logic.{◌↔◌}
use Prim.Native.Nat.{ℕ, zero, suc, ◌+◌, ◌<◌}
use native.Mathlib.Nat.{add-zero}
use native.Mathlib.Omega.{arith}
use mathlib.Core.List.{List, [], ◌∷◌}
use lib.ListN.{length, get_or}
use lib.Seq.{ext_get_or}
use lib.Dec.{eqb}
use borrow.Author.Tests.{eqb-true, eq-eqb}
use Rattle.serialize.specs.Search.{first_from}
use Rattle.serialize.proofs.Search.{found_lowest, lowest_found, found_none, none_found}
use Rattle.serialize.proofs.Lists.{get_or_part, length_part}
use Rattle.addresses.specs.declared.Address.{Address}
use Rattle.addresses.specs.Addresses.{first_word, words_of, has_words}
use Rattle.addresses.proofs.Meaning.{has_words_exactly}
use Rattle.places.specs.Layout.{Shaped, used_at, id_of, address_at}
use Rattle.places.specs.Finds.{has_address, find_address, has_id, find_id, free_at, find_free}
use Rattle.places.specs.Columns.{Field, Within, field_at, field_of, id, addr}
use Rattle.places.specs.Keys.{Keyed, LowestOf, NoneOf}
use Rattle.places.proofs.Frame.{field_inside}

pub true_false : {b : Bool} → b ≡ true → b ≡ false → ⊥
true_false p q = true≢false (sym p ∙ q)

not_holding : (b : Bool) → (b ≡ true → ⊥) → b ≡ false
not_holding true h = absurd (h refl)
not_holding false h = refl

-- ---- any search of which the test passes exactly for P

module _ (p : ℕ → Bool) (P : ℕ → Type 0) (n : ℕ) (says : (i : ℕ) → i < n → (p i ≡ true) ↔ P i) where
  pub search_found : (j : ℕ) → (first_from p 0 n ≡ Some j) ↔ LowestOf P n j
  search_found j = (
    λ e.
        let w = found_lowest p 0 n j e in
        let b : j < n = omega (arith, w.below) in
        record { below = b; here = (says j b).0 w.holds; none = λ m h x. true_false ((says m (omega arith)).1 x) (w.none m (omega arith) h) },
    λ w.
        let b : j < n = w.below in
        lowest_found p 0 n j (record {
          from = omega arith;
          below = omega arith;
          holds = (says j b).1 w.here;
          none = λ m a h. not_holding (p m) (λ e. w.none m h ((says m (omega arith)).0 e));
        }),
  )

  pub search_none : (first_from p 0 n ≡ None) ↔ NoneOf P n
  search_none = (
    λ e m h x. true_false ((says m h).1 x) (found_none p 0 n e m (omega arith) (omega arith)),
    λ f. none_found p 0 n (λ m a h. let b : m < n = omega arith in not_holding (p m) (λ e. f m b ((says m b).0 e))),
  )

-- ---- the tests

-- a word of a field
pub word_of_lem : (t : List ℕ) (n i : ℕ) (f : Field) (k at : ℕ) → k < f.size → field_at f n i + k ≡ at → get_or (field_of t n i f) k 0 ≡ get_or t at 0
word_of_lem t n i f k at h e = get_or_part t (field_at f n i) f.size k h ∙ ap (λ (j : ℕ). get_or t j 0) e

module _ (t : List ℕ) (n : ℕ) (shape : Shaped t n) where
  -- a field is the list that has its words
  field_is : (i : ℕ) (f : Field) → Within f → i < n → (ks : List ℕ) → length ks ≡ f.size → ((k : ℕ) → k < f.size → get_or t (field_at f n i + k) 0 ≡ get_or ks k 0) → field_of t n i f ≡ ks
  field_is i f w h ks l same =
      let m : length (field_of t n i f) ≡ f.size = length_part t (field_at f n i) f.size (field_inside f t n i shape w h) in
      ext_get_or 0 (field_of t n i f) ks (m ∙ sym l) (λ k b. let s : k < f.size = omega arith in get_or_part t (field_at f n i) f.size k s ∙ same k s)

  -- a field of one word, and one of three
  one_word : (i : ℕ) (f : Field) → Within f → i < n → f.size ≡ 1 → (at v : ℕ) → field_at f n i ≡ at → (field_of t n i f ≡ v ∷ []) ↔ (get_or t at 0 ≡ v)
  one_word i f w h s at v e = (
    λ q. sym (word_of_lem t n i f 0 at (omega arith) (add-zero (field_at f n i) ∙ e)) ∙ ap (λ (l : List ℕ). get_or l 0 0) q,
    λ q. field_is i f w h (v ∷ []) (sym s) (λ k b.
        let z : k ≡ 0 = omega arith in
        let p : field_at f n i + k ≡ at = omega arith in
        ap (λ (j : ℕ). get_or t j 0) p ∙ q ∙ ap (λ (j : ℕ). get_or (v ∷ []) j 0) (sym z)),
  )

  three_words : (i : ℕ) (f : Field) → Within f → i < n → f.size ≡ 3 → (at a b c : ℕ) → field_at f n i ≡ at
      → (field_of t n i f ≡ a ∷ b ∷ c ∷ []) ↔ ((get_or t at 0 ≡ a) × (get_or t (at + 1) 0 ≡ b) × (get_or t (at + 2) 0 ≡ c))
  three_words i f w h s at a b c e = (
    λ q. (
      sym (word_of_lem t n i f 0 at (omega arith) (omega arith)) ∙ ap (λ (l : List ℕ). get_or l 0 0) q,
      sym (word_of_lem t n i f 1 (at + 1) (omega arith) (omega arith)) ∙ ap (λ (l : List ℕ). get_or l 1 0) q,
      sym (word_of_lem t n i f 2 (at + 2) (omega arith) (omega arith)) ∙ ap (λ (l : List ℕ). get_or l 2 0) q,
    ),
    λ q. field_is i f w h (a ∷ b ∷ c ∷ []) (sym s) (λ k l. at_each k (omega arith) q ∙ refl),
  )
    where
      at_each : (k : ℕ) → k < 3 → (get_or t at 0 ≡ a) × (get_or t (at + 1) 0 ≡ b) × (get_or t (at + 2) 0 ≡ c) → get_or t (field_at f n i + k) 0 ≡ get_or (a ∷ b ∷ c ∷ []) k 0
      at_each zero l q = let p : field_at f n i + 0 ≡ at = omega arith in ap (λ (j : ℕ). get_or t j 0) p ∙ q.0
      at_each (suc zero) l q = let p : field_at f n i + 1 ≡ at + 1 = omega arith in ap (λ (j : ℕ). get_or t j 0) p ∙ q.1
      at_each (suc (suc zero)) l q = let p : field_at f n i + 2 ≡ at + 2 = omega arith in ap (λ (j : ℕ). get_or t j 0) p ∙ q.2
      at_each (suc (suc (suc k))) l q = absurd (omega arith)

  pub id_test : (x i : ℕ) → i < n → (has_id t n x i ≡ true) ↔ Keyed t n id (x ∷ []) i
  unfolding has_id
  id_test x i h =
      let w = one_word i id (omega arith) h refl (n + i) x (add-zero (n + i)) in (
        λ e. let b = (and-eq-true_iff (used_at t i) (eqb (id_of t n i) x)).0 e in (b.0, w.1 (eqb-true (id_of t n i) x b.1)),
        λ k. (and-eq-true_iff (used_at t i) (eqb (id_of t n i) x)).1 (k.0, eq-eqb (id_of t n i) x (w.0 k.1)),
      )

  pub address_test : (a : Address) (i : ℕ) → i < n → (has_address t n (first_word a) a.low a.high i ≡ true) ↔ Keyed t n addr (words_of a) i
  unfolding has_address
  address_test a i h =
      let at = address_at n i in
      let w = three_words i addr (omega arith) h refl at (first_word a) a.low a.high (add-zero at) in
      let x = has_words_exactly t at (first_word a) a.low a.high in (
        λ e. let b = (and-eq-true_iff (used_at t i) (has_words t at (first_word a) a.low a.high)).0 e in (b.0, w.1 (x.0 b.1)),
        λ k. ap₂ (λ (p q : Bool). p && q) k.0 (x.1 (w.0 k.1)),
      )

  -- ---- what each search finds

  pub address_found : (a : Address) (j : ℕ) → (find_address t n a ≡ Some j) ↔ LowestOf (Keyed t n addr (words_of a)) n j
  address_found a j = search_found (has_address t n (first_word a) a.low a.high) (Keyed t n addr (words_of a)) n (address_test a) j

  pub address_none : (a : Address) → (find_address t n a ≡ None) ↔ NoneOf (Keyed t n addr (words_of a)) n
  address_none a = search_none (has_address t n (first_word a) a.low a.high) (Keyed t n addr (words_of a)) n (address_test a)

  pub id_found : (x j : ℕ) → (find_id t n x ≡ Some j) ↔ LowestOf (Keyed t n id (x ∷ [])) n j
  id_found x j = search_found (has_id t n x) (Keyed t n id (x ∷ [])) n (id_test x) j

  pub id_none : (x : ℕ) → (find_id t n x ≡ None) ↔ NoneOf (Keyed t n id (x ∷ [])) n
  id_none x = search_none (has_id t n x) (Keyed t n id (x ∷ [])) n (id_test x)

-- a free place is one whose mark is 0
abbrev pub Free : List ℕ → ℕ → Type 0
Free t i = get_or t i 0 ≡ 0

pub free_found : (t : List ℕ) (n j : ℕ) → (find_free t n ≡ Some j) ↔ LowestOf (Free t) n j
free_found t n j = search_found (free_at t) (Free t) n (λ i h. (eqb-true (get_or t i 0) 0, eq-eqb (get_or t i 0) 0)) j

pub free_none : (t : List ℕ) (n : ℕ) → (find_free t n ≡ None) ↔ NoneOf (Free t) n
free_none t n = search_none (free_at t) (Free t) n (λ i h. (eqb-true (get_or t i 0) 0, eq-eqb (get_or t i 0) 0))
