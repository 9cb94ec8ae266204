-- A count goes up by one at each used mark that it passes: so it is the number of used marks, it changes by one with one mark, and it is
-- n exactly where none of n places is free, and 0 where all are.
use Rattle.std.specs.Prelude.{None, not, cond, take, count_by}
use Rattle.std.proofs.lemmas.List.Sums.{sum_by_more}
use mathlib.Core.Path.{◌≡◌, refl, sym, ap, ap₂, ◌∙◌}
use mathlib.Core.Logic.{◌↔◌, ⊎_elim}
use mathlib.Core.Bool.{Bool, true, false}
use Prim.Native.Nat.{ℕ, zero, suc, ◌+◌, ◌≤◌, ◌<◌}
use native.Mathlib.Nat.{eq-or-lt_of_le}
use native.Mathlib.Numerals.{add-one}
use native.Mathlib.Omega.{arith}
use mathlib.Core.List.{List}
use lib.ListN.{length, get_or}
use lib.Dec.{eqb}
use mir.Val.{bool_byte}
use borrow.Author.Tests.{eq-eqb, ne_eqb, eqb-true, eqb-false}
use Rattle.serialize.specs.Choice.{pick}
use Rattle.serialize.proofs.Choice.{by_test}
use Rattle.places.specs.Finds.{used_count, count_one, find_free}
use Rattle.places.specs.Keys.{NoneOf}
use Rattle.places.proofs.Searches.{Free, free_none}

-- ---- none, and one more

pub count_start : (t : List ℕ) → 0 ≡ used_count t 0
unfolding used_count
count_start t = refl

pub count_turn : (t : List ℕ) (i c d : ℕ) → c ≡ used_count t i → d ≡ count_one (get_or t i 0) → c + d ≡ used_count t (i + 1)
unfolding used_count
count_turn t i c d p q = ap (λ (x : ℕ). x + d) p ∙ ap (λ (x : ℕ). used_count t i + x) q ∙ ap (used_count t) (sym (add-one i))

-- ---- what a mark counts

pub empty_counts : (m : ℕ) → m ≡ 0 → count_one m ≡ 0
unfolding count_one pick
empty_counts m e = ap (λ (b : Bool). pick b 0 1) (eq-eqb m 0 e)

pub used_counts : (m : ℕ) → (m ≡ 0 → ⊥) → count_one m ≡ 1
unfolding count_one pick
used_counts m n = ap (λ (b : Bool). pick b 0 1) (ne_eqb m 0 n)

-- the library's count of the first n words that are not 0

one_by_test : (b : Bool) → cond (not b) 1 0 ≡ pick {A = ℕ} b 0 1
unfolding pick
one_by_test true = refl
one_by_test false = refl

pub count_marks : (t : List ℕ) (n : ℕ) → n ≤ length t → count_by (λ (m : ℕ). not (eqb m 0)) (take n t) ≡ used_count t n
unfolding used_count count_one
count_marks t zero h = refl
count_marks t (suc n) h =
    let more : ◌≡◌ {A = ℕ} (count_by (λ (m : ℕ). not (eqb m 0)) (take (n + 1) t)) (count_by (λ (m : ℕ). not (eqb m 0)) (take n t) + cond (not (eqb (get_or t n 0) 0)) 1 0) =
    sum_by_more (λ (m : ℕ). cond (not (eqb m 0)) 1 0) t n 0 h in
    ap (λ (k : ℕ). count_by (λ (m : ℕ). not (eqb m 0)) (take k t)) (sym (add-one n))
    ∙ more
    ∙ ap₂ ◌+◌ (count_marks t n (omega arith)) (one_by_test (eqb (get_or t n 0) 0))

bit_by_test : (b : Bool) → bool_byte (not b) ≡ pick b 0 1
unfolding pick
bit_by_test true = refl
bit_by_test false = refl

pub bit_counts : (m : ℕ) → bool_byte (not (eqb m 0)) ≡ count_one m
unfolding count_one
bit_counts m = bit_by_test (eqb m 0)

pub one_at_most : (m : ℕ) → count_one m ≤ 1
one_at_most m = by_test (eqb m 0) (λ e. omega (arith, empty_counts m (eqb-true m 0 e))) (λ e. omega (arith, used_counts m (eqb-false m 0 e)))

pub count_most : (t : List ℕ) (n : ℕ) → used_count t n ≤ n
unfolding used_count
count_most t zero = omega arith
count_most t (suc n) = omega (arith, count_most t n, one_at_most (get_or t n 0))

-- ---- one mark changed

module _ (t u : List ℕ) (n i : ℕ) (other : (j : ℕ) → j < n → (i ≡ j → ⊥) → get_or u j 0 ≡ get_or t j 0) where
  before : (k : ℕ) → k ≤ n → k ≤ i → used_count u k ≡ used_count t k
  unfolding used_count
  before zero b h = refl
  before (suc k) b h = ap₂ (λ (x y : ℕ). x + count_one y) (before k (omega arith) (omega arith)) (other k b (λ e. omega arith))

  one_changed : (k : ℕ) → k ≤ n → i < k → used_count u k + count_one (get_or t i 0) ≡ used_count t k + count_one (get_or u i 0)
  unfolding used_count
  one_changed zero b h = absurd (omega arith)
  one_changed (suc k) b h =
      let l : i ≤ k = omega arith in
      ⊎_elim
      (λ e.
      let a : used_count u k ≡ used_count t k = before k (omega arith) (omega arith) in
      let q : get_or u k 0 ≡ get_or u i 0 = ap (λ (j : ℕ). get_or u j 0) (sym e) in
      let c : get_or t k 0 ≡ get_or t i 0 = ap (λ (j : ℕ). get_or t j 0) (sym e) in
      let d : count_one (get_or u k 0) ≡ count_one (get_or u i 0) = ap count_one q in
      let f : count_one (get_or t k 0) ≡ count_one (get_or t i 0) = ap count_one c in
      omega arith)
      (λ q.
      let a = one_changed k (omega arith) q in
      let r : count_one (get_or u k 0) ≡ count_one (get_or t k 0) = ap count_one (other k b (λ e. omega arith)) in
      omega arith)
      (eq-or-lt_of_le l)

  -- a free place taken, and a used one emptied
  pub count_taken : i < n → get_or t i 0 ≡ 0 → (get_or u i 0 ≡ 0 → ⊥) → used_count u n ≡ used_count t n + 1
  count_taken h e f = omega (arith, one_changed n (omega arith) h, empty_counts (get_or t i 0) e, used_counts (get_or u i 0) f)

  pub count_emptied : i < n → (get_or t i 0 ≡ 0 → ⊥) → get_or u i 0 ≡ 0 → used_count u n + 1 ≡ used_count t n
  count_emptied h e f = omega (arith, one_changed n (omega arith) h, used_counts (get_or t i 0) e, empty_counts (get_or u i 0) f)

-- ---- full

all_count : (t : List ℕ) (n : ℕ) → NoneOf (Free t) n → used_count t n ≡ n
unfolding used_count
all_count t zero f = refl
all_count t (suc n) f = omega (arith, all_count t n (λ m h. f m (omega arith)), used_counts (get_or t n 0) (f n (omega arith)))

one_missing : (t : List ℕ) (n m : ℕ) → m < n → Free t m → used_count t n < n
unfolding used_count
one_missing t zero m h e = absurd (omega arith)
one_missing t (suc n) m h e =
    let l : m ≤ n = omega arith in
    ⊎_elim
    (λ q.
    let z : count_one (get_or t n 0) ≡ 0 = empty_counts (get_or t n 0) (ap (λ (j : ℕ). get_or t j 0) (sym q) ∙ e) in
    omega (arith, count_most t n))
    (λ q. omega (arith, one_missing t n m q e, one_at_most (get_or t n 0)))
    (eq-or-lt_of_le l)

-- no place is free exactly where the count is n
pub full_exactly : (t : List ℕ) (n : ℕ) → (find_free t n ≡ None) ↔ (used_count t n ≡ n)
full_exactly t n = (
  λ e. all_count t n ((free_none t n).0 e),
  λ e. (free_none t n).1 (λ m h f. let l : used_count t n < n = one_missing t n m h f in omega arith),
)

-- and 0 where every place is
pub all_free_count : (t : List ℕ) (n : ℕ) → ((m : ℕ) → m < n → Free t m) → used_count t n ≡ 0
unfolding used_count
all_free_count t zero f = refl
all_free_count t (suc n) f = omega (arith, all_free_count t n (λ m h. f m (omega arith)), empty_counts (get_or t n 0) (f n (omega arith)))
