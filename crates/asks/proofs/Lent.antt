-- Tests that no sum can pass 2^64 in, and what a buffer that passed them has.
use mathlib.Core.Path.{◌≡◌, sym, ◌∙◌}
use mathlib.Core.Bool.{true, false}
use Prim.Native.Nat.{ℕ, ◌+◌, ◌-◌, ◌≤◌, ◌<◌}
use native.Mathlib.Omega.{arith}
use borrow.Author.Tests.{lt-ltb, le-ltb, ltb-true, ltb-false, eqb-true}
use lib.Dec.{ltb, eqb}
use Rattle.serialize.proofs.Choice.{by_test}
use Rattle.asks.specs.Asks.{unlike}

-- what a callee's promise and a branch say together
pub told : {A : Type 0} {x y z : A} → x ≡ y → x ≡ z → y ≡ z
told e f = sym e ∙ f

-- a test by subtraction, which can't pass 2^64, is the test by the sum
pub past_by : (room at n : ℕ) → at ≤ room → ltb (room - at) n ≡ ltb room (at + n)
past_by room at n h =
    by_test (ltb (room - at) n)
    (λ e. let k : room - at < n = ltb-true (room - at) n e in e ∙ sym (lt-ltb room (at + n) (omega arith)))
    (λ e. let k : n ≤ room - at = ltb-false (room - at) n e in e ∙ sym (le-ltb room (at + n) (omega arith)))

-- a buffer that is not unlike its ask's has its length, and the ask's place
pub like_means : (at n len room : ℕ) → unlike at n len room ≡ false → (room ≡ len) × (at + n ≤ len)
like_means at n len room h =
    by_test (eqb room len)
    (λ e. (eqb-true room len e, ltb-false len (at + n) (simp e at h)))
    (λ e. absurd (let f : true ≡ false = simp e at h in let z : ◌≡◌ {A = ℕ} 0 1 = cc in omega arith))
