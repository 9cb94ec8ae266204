-- Sums and differences of whole nanoseconds: seconds and nanoseconds apart, with the carry or the borrow, are the quotient and the
-- remainder of the whole.
use Rattle.std.specs.Prelude.{Ok, Err}
use Rattle.std.specs.Int.{from_bool}
use mathlib.Core.Path.{◌≡◌, refl, sym, ap, ap₂, ◌∙◌}
use mathlib.Core.Bool.{Bool, true, false}
use Prim.Native.Nat.{ℕ, ◌+◌, ◌*◌, ◌-◌, ◌/◌, ◌%◌, ◌^◌, ◌≤◌, ◌<◌, min}
use native.Mathlib.Omega.{arith}
use lib.Dec.{ltb}
use borrow.Author.Tests.{le-leb, lt-leb, lt-ltb, le-ltb, ltb-true, ltb-false}
use Rattle.serialize.specs.Choice.{pick}
use Rattle.serialize.proofs.Choice.{by_test}
use Rattle.times.specs.Times.{second, time, zero, whole, clock, added, before, since, settled, borrowed}
use Rattle.times.specs.declared.Time.{Time}

pub borrows : (nanos less : ℕ) → nanos < less → borrowed nanos less ≡ 1
unfolding borrowed pick
borrows nanos less h = simp (lt-ltb _ _ h)

pub borrows_none : (nanos less : ℕ) → less ≤ nanos → borrowed nanos less ≡ 0
unfolding borrowed pick
borrows_none nanos less h = simp (le-ltb _ _ h)

module _ (t step : Time) where
  pub added_over : 2 ^ 64 * second ≤ whole t + whole step → added t step ≡ Err 20
  unfolding added pick
  added_over h = simp (le-leb _ _ h)

  pub added_below : whole t + whole step < 2 ^ 64 * second → added t step ≡ Ok (clock (whole t + whole step))
  unfolding added pick
  added_below h = simp (lt-leb _ _ h)

  -- what add computes besides the seconds: the nanoseconds, each part below a second, and the seconds in them
  abbrev rest : ℕ
  rest = t.nanos % second + step.nanos % second

  abbrev carry : ℕ
  carry = t.nanos / second + step.nanos / second + rest / second

  pub add_far : 18446744073709551615 - t.secs < step.secs → Err 20 ≡ added t step
  add_far h = sym (added_over (omega arith))

  pub add_carries_out : step.secs ≤ 18446744073709551615 - t.secs → 18446744073709551615 - (t.secs + step.secs) < carry →
      Err 20 ≡ added t step
  add_carries_out h g = sym (added_over (omega arith))

  pub add_clock : t.secs < 2 ^ 64 → step.secs ≤ 18446744073709551615 - t.secs → carry ≤ 18446744073709551615 - (t.secs + step.secs) →
      Ok (time (t.secs + step.secs + carry) (rest % second)) ≡ added t step
  add_clock b h g =
      let p : t.secs + step.secs + carry ≡ (whole t + whole step) / second = omega arith in
      let q : rest % second ≡ (whole t + whole step) % second = omega arith in
      ap₂ (λ (x y : ℕ). Ok (time x y)) p q ∙ sym (added_below (omega arith))

module _ (up give take rest : ℕ) (word : up < 2 ^ 64) where
  pub settle_down : give ≤ take → take ≤ up + give → time (up - (take - give)) rest ≡ settled (up + give - take) rest
  unfolding settled
  settle_down h g =
      let p : up - (take - give) ≡ min (up + give - take) 18446744073709551615 = omega arith in
      let q : rest ≡ rest + (up + give - take - min (up + give - take) 18446744073709551615) * second = omega arith in
      ap₂ time p q

  fits_most : (fits : ℕ) → take < give → fits ≡ min (give - take) (18446744073709551615 - up) →
      up + fits ≡ min (up + give - take) 18446744073709551615
  fits_most fits h e = omega arith

  pub settle_up : (fits : ℕ) → take < give → fits ≡ min (give - take) (18446744073709551615 - up) →
      time (up + fits) (rest + (give - take - fits) * second) ≡ settled (up + give - take) rest
  unfolding settled
  settle_up fits h e =
      let q : give - take - fits ≡ up + give - take - (up + fits) = omega arith in
      ap₂ (λ (x y : ℕ). time x (rest + y * second)) (fits_most fits h e) (q ∙ ap (λ (x : ℕ). up + give - take - x) (fits_most fits h e))

-- the nanoseconds of t less those of then, each below a second, with what they borrow: below a second and not below 0
pub record Apart (t then : Time) (one : ℕ) : Type 0 where
  pub one_at_most : one ≤ 1
  pub enough : then.nanos % second ≤ t.nanos % second + one * second
  pub small : t.nanos % second + one * second < then.nanos % second + second

pub apart : (t then : Time) (one : ℕ) → one ≡ borrowed (t.nanos % second) (then.nanos % second) → Apart t then one
apart t then one e =
    let n = t.nanos % second in
    let l = then.nanos % second in
    by_test (ltb n l)
    (λ b. let h : n < l = ltb-true n l b in let k : one ≡ 1 = e ∙ borrows n l h in omega arith)
    (λ b. let h : l ≤ n = ltb-false n l b in let k : one ≡ 0 = e ∙ borrows_none n l h in omega arith)

-- as the code borrows: the library's number of the test
borrow_from : (b : Bool) → from_bool b ≡ pick {A = ℕ} b 1 0
unfolding pick
borrow_from true = refl
borrow_from false = refl

pub apart_from : (t then : Time) (one : ℕ) → one ≡ from_bool (ltb (t.nanos % second) (then.nanos % second)) → Apart t then one
unfolding borrowed
apart_from t then one e = apart t then one (e ∙ borrow_from (ltb (t.nanos % second) (then.nanos % second)))

module _ (t then : Time) {r : Bool} (e : r ≡ before t then) where
  pub later : r ≡ true → whole t ≤ whole then
  later h = omega (arith, ltb-true (whole t) (whole then) (sym e ∙ h))

  pub not_later : r ≡ false → whole then ≤ whole t
  not_later h = ltb-false (whole t) (whole then) (sym e ∙ h)

module _ (t then : Time) where
  pub since_zero : whole t ≤ whole then → zero ≡ since t then
  unfolding settled
  since_zero h =
      let e : 0 ≡ whole t - whole then = omega arith in
      ap (λ (w : ℕ). settled (w / second) (w % second)) e

  pub since_settled : (up down one : ℕ) → whole then ≤ whole t →
      up ≡ t.secs - then.secs → down ≡ then.secs - t.secs → Apart t then one →
      settled (up + t.nanos / second - (down + then.nanos / second + one)) (t.nanos % second + one * second - then.nanos % second)
      ≡ since t then
  since_settled up down one h p q k =
      let x : up + t.nanos / second - (down + then.nanos / second + one) ≡ (whole t - whole then) / second = omega arith in
      let y : t.nanos % second + one * second - then.nanos % second ≡ (whole t - whole then) % second = omega arith in
      ap₂ settled x y
