-- A comparison of whole nanoseconds, with no sum that passes 64 bits: both sides less the smaller number of seconds compare alike, and
-- a lead of FAR seconds outweighs all the rest.
use mathlib.Core.Path.{◌≡◌, sym, ap, ◌∙◌}
use mathlib.Core.Logic.{◌≢◌}
use Prim.Native.Nat.{ℕ, suc, ◌+◌, ◌*◌, ◌-◌, ◌/◌, ◌%◌, ◌^◌, ◌≤◌, ◌<◌, min}
use native.Mathlib.Omega.{arith}
use lib.Dec.{ltb}
use borrow.Author.Tests.{ltb-true, ltb-false, leb-true, leb-false, lt-ltb, le-ltb}
use Rattle.serialize.proofs.Choice.{by_test}
use Rattle.times.specs.Times.{second, whole, before, past, due}
use Rattle.times.specs.declared.Time.{Time}

-- two tests are one where each decides the other
pub same_test : (a b x y : ℕ) → (a < b → x < y) → (b ≤ a → y ≤ x) → ltb a b ≡ ltb x y
same_test a b x y f g =
    by_test (ltb a b)
    (λ t. t ∙ sym (lt-ltb x y (f (ltb-true a b t))))
    (λ e. e ∙ sym (le-ltb x y (g (ltb-false a b e))))

-- the nanoseconds that are compared, and the seconds on either side: the lead of t's seconds and of now's, with what is in the nanoseconds
abbrev rest : Time → ℕ → ℕ
rest t nanos = t.nanos % second + nanos

abbrev late : ℕ → Time → ℕ → ℕ → ℕ
late lead t secs nanos = lead + t.nanos / second + secs + rest t nanos / second

abbrev early : ℕ → Time → ℕ
early lag t = lag + t.nanos / second

module _ (t «now» : Time) (secs nanos ahead behind lead lag : ℕ) {far : ℕ} (small : nanos < second)
    (word : secs < 2 ^ 32) (own : t.nanos < 2 ^ 64) (other : «now».nanos < 2 ^ 64)
    (a : ahead ≡ t.secs - «now».secs) (p : lead ≡ min ahead far) (b : behind ≡ «now».secs - t.secs) (q : lag ≡ min behind far)
    (wide : 2 ^ 64 / second + 2 ^ 32 + 1 < far) where
  pub decided_by_seconds : late lead t secs nanos ≢ early lag «now» →
      ltb (late lead t secs nanos) (early lag «now») ≡ ltb (whole t + secs * second + nanos) (whole «now»)
  decided_by_seconds n =
      same_test (late lead t secs nanos) (early lag «now») (whole t + secs * second + nanos) (whole «now»)
      (λ h. omega arith) (λ h. omega arith)

  pub decided_by_rest : late lead t secs nanos ≡ early lag «now» →
      ltb (rest t nanos % second) («now».nanos % second) ≡ ltb (whole t + secs * second + nanos) (whole «now»)
  decided_by_rest e =
      same_test (rest t nanos % second) («now».nanos % second) (whole t + secs * second + nanos) (whole «now»)
      (λ h. omega arith) (λ h. omega arith)

-- what each caller asks for is a comparison of its own

pub passes_before : (t other : Time) → ltb (whole t + 0 * second + 0) (whole other) ≡ before t other
passes_before t other =
    let e : whole t + 0 * second + 0 ≡ whole t = omega arith in
    ap (λ (n : ℕ). ltb n (whole other)) e

pub passes_past : (t : Time) (secs : ℕ) («now» : Time) → ltb (whole t + secs * second + 0) (whole «now») ≡ past t secs «now»
passes_past t secs «now» =
    let e : whole t + secs * second + 0 ≡ whole t + secs * second = omega arith in
    ap (λ (n : ℕ). ltb n (whole «now»)) e

-- "at most" is "below" of one less
pub passes_due : (t «now» : Time) {short : ℕ} → suc short ≡ 250000000 → ltb (whole t + 0 * second + short) (whole «now») ≡ due t «now»
passes_due t «now» {short} k =
    by_test (due t «now»)
    (λ e. lt-ltb (whole t + 0 * second + short) (whole «now») (omega (arith, leb-true (whole t + 250000000) (whole «now») e)) ∙ sym e)
    (λ e. le-ltb (whole t + 0 * second + short) (whole «now») (omega (arith, leb-false (whole t + 250000000) (whole «now») e)) ∙ sym e)

-- ---- two times as a clock shows them

module _ (t other : Time) (own : t.nanos < second) (its : other.nanos < second) where
  pub seconds_decide : t.secs ≢ other.secs → ltb t.secs other.secs ≡ before t other
  seconds_decide n = same_test t.secs other.secs (whole t) (whole other) (λ h. omega arith) (λ h. omega arith)

  pub nanos_decide : t.secs ≡ other.secs → ltb t.nanos other.nanos ≡ before t other
  nanos_decide e = same_test t.nanos other.nanos (whole t) (whole other) (λ h. omega arith) (λ h. omega arith)
