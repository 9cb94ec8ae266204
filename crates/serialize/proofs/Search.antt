-- The laws of `first_from`: in the terms of a loop that counts i up to n, and of what was found, by recursion on the places left.
use Rattle.std.specs.Prelude.{Some, None}
use mathlib.Core.Path.{◌≡◌, refl, sym, ap, subst, ◌∙◌}
use mathlib.Core.Bool.{Bool, true, false}
use mathlib.Core.Logic.{⊎_elim}
use Prim.Native.Nat.{ℕ, zero, suc, ◌+◌, ◌-◌, ◌≤◌, ◌<◌}
use native.Mathlib.Nat.{eq-or-lt_of_le}
use native.Mathlib.Omega.{arith}
use native.Mathlib.Numerals.{add-one}
use Rattle.serialize.specs.Choice.{pick}
use Rattle.serialize.specs.Search.{first_from}
use Rattle.serialize.proofs.Choice.{by_test}

-- ---- a loop's start, its hit, its miss and its end

pub scan_start : (p : ℕ → Bool) (n : ℕ) → first_from p 0 n ≡ first_from p 0 (n - 0)
scan_start p n = let e : n ≡ n - 0 = omega arith in ap (first_from p 0) e

module _ (p : ℕ → Bool) (i n : ℕ) where
  step : (b : Bool) → i < n → p i ≡ b → first_from p i (n - i) ≡ pick b (Some i) (first_from p (suc i) (n - suc i))
  unfolding first_from
  step b h t =
      let e : n - i ≡ suc (n - suc i) = omega arith in
      ap (first_from p i) e ∙ ap (λ (u : Bool). pick u (Some i) (first_from p (suc i) (n - suc i))) t

  pub scan_hit : i < n → p i ≡ true → first_from p i (n - i) ≡ Some i
  unfolding pick
  scan_hit h t = step true h t

  pub scan_miss : i < n → p i ≡ false → first_from p i (n - i) ≡ first_from p (i + 1) (n - (i + 1))
  unfolding pick
  scan_miss h t = rw add-one (step false h t)

  pub scan_end : n ≤ i → first_from p i (n - i) ≡ None
  unfolding first_from
  scan_end h = let e : n - i ≡ 0 = omega arith in ap (first_from p i) e

-- ---- what was found

-- place j is the lowest, of the k from i on, of which p holds
pub record Lowest (p : ℕ → Bool) (i k j : ℕ) : Type 0 where
  pub from : i ≤ j
  pub below : j < i + k
  pub holds : p j ≡ true
  pub none : (m : ℕ) → i ≤ m → m < j → p m ≡ false

-- what holds at i, and from suc i on, holds from i on
from_next : (P : ℕ → Type 0) (i : ℕ) → P i → (m : ℕ) → (suc i ≤ m → P m) → i ≤ m → P m
from_next P i here m next h = ⊎_elim (λ e. subst P e here) next (eq-or-lt_of_le h)

pub found_lowest : (p : ℕ → Bool) (i k j : ℕ) → first_from p i k ≡ Some j → Lowest p i k j
unfolding first_from pick
found_lowest p i zero j h = let z : ◌≡◌ {A = ℕ} 0 1 = cc in absurd (omega arith)
found_lowest p i (suc k) j h =
    by_test (p i)
    (λ e.
    let q : Some i ≡ Some j = sym (ap (λ (b : Bool). pick b (Some i) (first_from p (suc i) k)) e) ∙ h in
    let r : i ≡ j = cc in
    record { from = omega arith; below = omega arith; holds = subst (λ (m : ℕ). p m ≡ true) r e; none = λ m a b. absurd (omega arith) })
    (λ e.
    let q : first_from p (suc i) k ≡ Some j = sym (ap (λ (b : Bool). pick b (Some i) (first_from p (suc i) k)) e) ∙ h in
    let w = found_lowest p (suc i) k j q in
    record {
      from = omega (arith, w.from);
      below = omega (arith, w.below);
      holds = w.holds;
      none = λ m a b. from_next (λ (x : ℕ). p x ≡ false) i e m (λ c. w.none m c b) a;
    })

pub found_none : (p : ℕ → Bool) (i k : ℕ) → first_from p i k ≡ None → (m : ℕ) → i ≤ m → m < i + k → p m ≡ false
unfolding first_from pick
found_none p i zero h m a b = absurd (omega arith)
found_none p i (suc k) h m a b =
    by_test (p i)
    (λ e.
    let q : Some i ≡ None = sym (ap (λ (b : Bool). pick b (Some i) (first_from p (suc i) k)) e) ∙ h in
    let z : ◌≡◌ {A = ℕ} 0 1 = cc in
    absurd (omega arith))
    (λ e.
    let q : first_from p (suc i) k ≡ None = sym (ap (λ (b : Bool). pick b (Some i) (first_from p (suc i) k)) e) ∙ h in
    from_next (λ (x : ℕ). p x ≡ false) i e m (λ c. found_none p (suc i) k q m c (omega arith)) a)

pub none_found : (p : ℕ → Bool) (i k : ℕ) → ((m : ℕ) → i ≤ m → m < i + k → p m ≡ false) → first_from p i k ≡ None
unfolding first_from pick
none_found p i zero h = refl
none_found p i (suc k) h =
    ap (λ (b : Bool). pick b (Some i) (first_from p (suc i) k)) (h i (omega arith) (omega arith))
    ∙ none_found p (suc i) k (λ m a b. h m (omega arith) (omega arith))

pub lowest_found : (p : ℕ → Bool) (i k j : ℕ) → Lowest p i k j → first_from p i k ≡ Some j
unfolding first_from pick
lowest_found p i zero j w = absurd (omega (arith, w.from, w.below))
lowest_found p i (suc k) j w =
    ⊎_elim
    (λ e.
    ap (λ (b : Bool). pick b (Some i) (first_from p (suc i) k)) (subst (λ (m : ℕ). p m ≡ true) (sym e) w.holds) ∙ ap Some e)
    (λ l.
    ap (λ (b : Bool). pick b (Some i) (first_from p (suc i) k)) (w.none i (omega arith) l)
    ∙ lowest_found p (suc i) k j (record { from = l; below = omega (arith, w.below); holds = w.holds; none = λ m a b. w.none m (omega arith) b }))
    (eq-or-lt_of_le w.from)

-- a search goes by its test at the places that it looks at
pub first_ext : (p q : ℕ → Bool) (i k : ℕ) → ((j : ℕ) → i ≤ j → j < i + k → p j ≡ q j) → first_from p i k ≡ first_from q i k
unfolding first_from
first_ext p q i zero h = refl
first_ext p q i (suc k) h =
    ap (λ (b : Bool). pick b (Some i) (first_from p (suc i) k)) (h i (omega arith) (omega arith))
    ∙ ap (pick (q i) (Some i)) (first_ext p q (suc i) k (λ j a b. h j (omega arith) (omega arith)))
