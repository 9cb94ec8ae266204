-- What the definitions say of times, from the definitions alone: a clock is its whole nanoseconds, a sum is exact or out of range, and a
-- difference is exact and stops at zero.
use Rattle.std.specs.Prelude.{Ok, Err}
use mathlib.Core.Path.{◌≡◌, refl, sym, ◌∙◌}
use mathlib.Core.Logic.{◌↔◌}
use mathlib.Core.Bool.{true, false}
use Prim.Native.Nat.{ℕ, ◌+◌, ◌*◌, ◌-◌, ◌/◌, ◌%◌, ◌^◌, ◌≤◌, ◌<◌}
use native.Mathlib.Omega.{arith}
use lib.Dec.{leb}
use borrow.Author.Tests.{leb-true, leb-false}
use Rattle.serialize.proofs.Choice.{by_test}
use Rattle.times.specs.Times.{second, time, zero, whole, clock, added, past, due, since, settled}
use Rattle.times.specs.declared.Time.{Time}
use Rattle.times.proofs.Sums.{added_over, added_below, since_zero}

-- ---- the clock

pub clock_whole : (w : ℕ) → whole (clock w) ≡ w
clock_whole w = omega arith

pub clock_small : (w : ℕ) → (clock w).nanos < second
clock_small w = omega arith

-- ---- a sum

-- c is the sum of t and step, as the clock keeps it
pub record Sum (t step c : Time) : Type 0 where
  pub exact : whole c ≡ whole t + whole step
  pub small : c.nanos < second
  pub word : c.secs < 2 ^ 64

module _ (t step : Time) where
  -- a sum is out of range or a clock, and which follows from its size
  by_range : {A : Type 0} → (2 ^ 64 * second ≤ whole t + whole step → added t step ≡ Err 20 → A) →
      (whole t + whole step < 2 ^ 64 * second → added t step ≡ Ok (clock (whole t + whole step)) → A) → A
  by_range f g =
      by_test (leb (2 ^ 64 * second) (whole t + whole step))
      (λ b. let h = leb-true (2 ^ 64 * second) (whole t + whole step) b in f h (added_over t step h))
      (λ b. let h = leb-false (2 ^ 64 * second) (whole t + whole step) b in g h (added_below t step h))

  clock_sum : whole t + whole step < 2 ^ 64 * second → Sum t step (clock (whole t + whole step))
  clock_sum h = record { exact = omega arith; small = omega arith; word = omega arith }

  pub added_clock : (c : Time) → added t step ≡ Ok c → Sum t step c
  added_clock c e =
      by_range
      (λ h o. let z : ◌≡◌ {A = ℕ} 0 1 = cc in omega arith)
      (λ h o. let k : clock (whole t + whole step) ≡ c = cc in rw k at (clock_sum h))

  over : added t step ≡ Err 20 → 2 ^ 64 * second ≤ whole t + whole step
  over e = by_range (λ h o. h) (λ h o. let z : ◌≡◌ {A = ℕ} 0 1 = cc in omega arith)

  pub added_out : (added t step ≡ Err 20) ↔ (2 ^ 64 * second ≤ whole t + whole step)
  added_out = (over, added_over t step)

-- ---- a difference

pub settled_whole : (secs nanos : ℕ) → whole (settled secs nanos) ≡ secs * second + nanos
unfolding settled
settled_whole secs nanos = omega arith

module _ (t then : Time) where
  pub since_whole : whole (since t then) ≡ whole t - whole then
  since_whole =
      let e : (whole t - whole then) / second * second + (whole t - whole then) % second ≡ whole t - whole then = omega arith in
      settled_whole ((whole t - whole then) / second) ((whole t - whole then) % second) ∙ e

  pub since_later : whole t ≤ whole then → since t then ≡ zero
  since_later h = sym (since_zero t then h)

  -- for a clock as calls leave it the nanoseconds stay below a second
  pub since_clock : t.nanos < second → t.secs < 2 ^ 64 → (since t then).nanos < second
  unfolding settled
  since_clock n s = omega arith

-- ---- the figures of document 01

-- timeout 15 s, received at 10 s: stays at 25 s, out one nanosecond later
pub timeout_figures : (past (time 10 0) 15 (time 25 0) ≡ false) × (past (time 10 0) 15 (time 25 1) ≡ true)
timeout_figures = (refl, refl)

-- sent at 1 s: not due a nanosecond before 250 ms have passed, due when they have
pub due_figures : (due (time 1 0) (time 1 249999999) ≡ false) × (due (time 1 0) (time 1 250000000) ≡ true)
due_figures = (refl, refl)
