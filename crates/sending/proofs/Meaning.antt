-- When a pump is given up, in numbers: the tests of the definition hold exactly when the sums of whole nanoseconds say so.
use mathlib.Core.Path.{◌≡◌, refl}
use mathlib.Core.Logic.{◌↔◌}
use mathlib.Core.Bool.{Bool, true, false, ◌&&◌}
use Prim.Native.Nat.{ℕ, ◌+◌, ◌*◌, ◌^◌, ◌<◌}
use lib.Dec.{ltb}
use borrow.Author.Tests.{lt-ltb, ltb-true}
use Rattle.places.proofs.Searches.{true_false}
use Rattle.times.specs.declared.Time.{Time}
use Rattle.times.specs.Times.{second, time, whole, past}
use Rattle.sending.specs.Clients.{over_zero, overdue_at}

-- timeout over 0, and received + timeout < now, with no word's end in the way
pub record Overdue (timeout : ℕ) (received now : Time) : Type 0 where
  pub over_0 : 0 < timeout
  pub not_negative : timeout < 2 ^ 31
  pub passed : whole received + timeout * second < whole now

both_true : (a b : Bool) → a && b ≡ true → (a ≡ true) × (b ≡ true)
both_true true b e = (refl, e)
both_true false b e = absurd (true_false e refl)

module _ (timeout : ℕ) (received now : Time) where
  is_overdue : overdue_at timeout received now ≡ true → Overdue timeout received now
  unfolding overdue_at over_zero
  is_overdue e =
      let p = both_true (over_zero timeout) (past received timeout now) e in
      let q = both_true (ltb 0 timeout) (ltb timeout (2 ^ 31)) p.0 in
      record {
        over_0 = ltb-true 0 timeout q.0;
        not_negative = ltb-true timeout (2 ^ 31) q.1;
        passed = ltb-true (whole received + timeout * second) (whole now) p.1;
      }

  told_overdue : Overdue timeout received now → overdue_at timeout received now ≡ true
  unfolding overdue_at over_zero
  told_overdue o =
      simp (
        lt-ltb 0 timeout o.over_0,
        lt-ltb timeout (2 ^ 31) o.not_negative,
        lt-ltb (whole received + timeout * second) (whole now) o.passed,
      )

  pub overdue_exactly : (overdue_at timeout received now ≡ true) ↔ Overdue timeout received now
  overdue_exactly = (is_overdue, told_overdue)

  -- 0 and a number below 0, whose 32 bits are 2^31 or more, never
  pub never_overdue : (0 < timeout → timeout < 2 ^ 31 → ⊥) → overdue_at timeout received now ≡ true → ⊥
  never_overdue n e = let o = is_overdue e in n o.over_0 o.not_negative

-- ---- the figures of document 01: timeout 15, received 10 s: stays at 25 s, out one nanosecond later; 0 and -1 never

pub overdue_figures : (overdue_at 15 (time 10 0) (time 25 0) ≡ false) × (overdue_at 15 (time 10 0) (time 25 1) ≡ true)
    × (overdue_at 0 (time 10 0) (time 18446744073709551615 0) ≡ false) × (overdue_at 4294967295 (time 10 0) (time 18446744073709551615 0) ≡ false)
unfolding overdue_at over_zero
overdue_figures = (refl, refl, refl, refl)

-- 2^31-1 seconds is the longest timeout; a received time at the clock's end is passed by nothing that the clock shows
pub overdue_edges : (overdue_at 2147483647 (time 0 0) (time 2147483647 1) ≡ true) × (overdue_at 2147483648 (time 0 0) (time 18446744073709551615 999999999) ≡ false)
    × (overdue_at 1 (time 18446744073709551615 0) (time 18446744073709551615 999999999) ≡ false)
unfolding overdue_at over_zero
overdue_edges = (refl, refl, refl)
