-- The laws of `last_below`: in the terms of a loop that counts i down to 0, and of what was found, by recursion on the places below.
use Rattle.std.specs.Prelude.{Some, None}
use mathlib.Core.Path.{◌≡◌, refl, sym, ap, subst, ◌∙◌}
use mathlib.Core.Bool.{Bool, true, false}
use mathlib.Core.Logic.{⊎_elim}
use Prim.Native.Nat.{ℕ, zero, suc, ◌-◌, ◌≤◌, ◌<◌}
use native.Mathlib.Nat.{eq-or-lt_of_le}
use native.Mathlib.Omega.{arith}
use Rattle.serialize.specs.Choice.{pick}
use Rattle.serialize.proofs.Choice.{by_test}
use Rattle.entries.specs.Finds.{last_below}

-- ---- a loop's hit, its miss and its end

module _ (p : ℕ → Bool) (i : ℕ) where
  step : (b : Bool) → (i ≡ 0 → ⊥) → p (i - 1) ≡ b → last_below p i ≡ pick b (Some (i - 1)) (last_below p (i - 1))
  unfolding last_below
  step b h t =
      let e : i ≡ suc (i - 1) = omega arith in
      ap (last_below p) e ∙ ap (λ (u : Bool). pick u (Some (i - 1)) (last_below p (i - 1))) t

  pub down_hit : (i ≡ 0 → ⊥) → p (i - 1) ≡ true → last_below p i ≡ Some (i - 1)
  unfolding pick
  down_hit h t = step true h t

  pub down_miss : (i ≡ 0 → ⊥) → p (i - 1) ≡ false → last_below p i ≡ last_below p (i - 1)
  unfolding pick
  down_miss h t = step false h t

  pub down_end : i ≡ 0 → last_below p i ≡ None
  unfolding last_below
  down_end e = ap (last_below p) e

-- ---- what was found

-- place j is the highest, of the first k, of which p holds
pub record Highest (p : ℕ → Bool) (k j : ℕ) : Type 0 where
  pub below : j < k
  pub holds : p j ≡ true
  pub none : (m : ℕ) → j < m → m < k → p m ≡ false

-- what holds at k, and below k, holds below suc k
pub and_last : (P : ℕ → Type 0) (k : ℕ) → P k → (m : ℕ) → (m < k → P m) → m < suc k → P m
and_last P k here m lower h =
    let l : m ≤ k = omega arith in
    ⊎_elim (λ (e : m ≡ k). subst P (sym e) here) lower (eq-or-lt_of_le l)

pub found_last : (p : ℕ → Bool) (k j : ℕ) → last_below p k ≡ Some j → Highest p k j
unfolding last_below pick
found_last p zero j h = let z : ◌≡◌ {A = ℕ} 0 1 = cc in absurd (omega arith)
found_last p (suc k) j h =
    by_test (p k)
    (λ e.
    let q : Some k ≡ Some j = sym (ap (λ (b : Bool). pick b (Some k) (last_below p k)) e) ∙ h in
    let r : k ≡ j = cc in
    record { below = omega arith; holds = subst (λ (m : ℕ). p m ≡ true) r e; none = λ m a b. absurd (omega arith) })
    (λ e.
    let q : last_below p k ≡ Some j = sym (ap (λ (b : Bool). pick b (Some k) (last_below p k)) e) ∙ h in
    let w = found_last p k j q in
    record {
      below = omega (arith, w.below);
      holds = w.holds;
      none = λ m a b. and_last (λ (x : ℕ). p x ≡ false) k e m (λ c. w.none m a c) b;
    })

pub last_found : (p : ℕ → Bool) (k j : ℕ) → Highest p k j → last_below p k ≡ Some j
unfolding last_below pick
last_found p zero j w = absurd (omega (arith, w.below))
last_found p (suc k) j w =
    let l : j ≤ k = omega (arith, w.below) in
    ⊎_elim
    (λ (e : j ≡ k).
    ap (λ (b : Bool). pick b (Some k) (last_below p k)) (subst (λ (m : ℕ). p m ≡ true) e w.holds) ∙ ap Some (sym e))
    (λ s.
    ap (λ (b : Bool). pick b (Some k) (last_below p k)) (w.none k s (omega arith))
    ∙ last_found p k j (record { below = s; holds = w.holds; none = λ m a b. w.none m a (omega arith) }))
    (eq-or-lt_of_le l)

pub none_last : (p : ℕ → Bool) (k : ℕ) → last_below p k ≡ None → (m : ℕ) → m < k → p m ≡ false
unfolding last_below pick
none_last p zero h m a = absurd (omega arith)
none_last p (suc k) h m a =
    by_test (p k)
    (λ e.
    let q : Some k ≡ None = sym (ap (λ (b : Bool). pick b (Some k) (last_below p k)) e) ∙ h in
    let z : ◌≡◌ {A = ℕ} 0 1 = cc in
    absurd (omega arith))
    (λ e.
    let q : last_below p k ≡ None = sym (ap (λ (b : Bool). pick b (Some k) (last_below p k)) e) ∙ h in
    and_last (λ (x : ℕ). p x ≡ false) k e m (none_last p k q m) a)

pub last_none : (p : ℕ → Bool) (k : ℕ) → ((m : ℕ) → m < k → p m ≡ false) → last_below p k ≡ None
unfolding last_below pick
last_none p zero h = refl
last_none p (suc k) h =
    ap (λ (b : Bool). pick b (Some k) (last_below p k)) (h k (omega arith)) ∙ last_none p k (λ m a. h m (omega arith))
