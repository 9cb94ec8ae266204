-- Each way out is a case of the definition, by the tests that led there.
use Prim.Native.Nat.{ℕ, ◌^◌, ◌≤◌, ◌<◌}
use native.Mathlib.Omega.{arith}
use borrow.Author.Tests.{eq-eqb, ne_eqb, lt-ltb, le-ltb}
use Rattle.addresses.specs.Addresses.{well_formed}
use Rattle.addresses.proofs.is_well_formed.Goals as goal

pub returns-then-kind-eq6 : goal.returns-then-kind-eq6
unfolding well_formed
returns-then-kind-eq6 c = simp (eq-eqb _ _ c.if-kind-eq6.true)

pub returns-then-kind-ne4 : goal.returns-then-kind-ne4
unfolding well_formed
returns-then-kind-ne4 c = simp (ne_eqb _ _ c.if-kind-eq6.false, ne_eqb _ _ c.if-kind-ne4.true)

pub returns-then-low-ge4294967296 : goal.returns-then-low-ge4294967296
unfolding well_formed
returns-then-low-ge4294967296 c =
    let low : ℕ = c.args.low in
    let over : 2 ^ 32 ≤ low = omega arith in
    simp (ne_eqb _ _ c.if-kind-eq6.false, eq-eqb _ _ c.if-kind-ne4.false, le-ltb low (2 ^ 32) over)

pub returns : goal.returns
unfolding well_formed
returns c =
    let low : ℕ = c.args.low in
    let under : low < 2 ^ 32 = omega arith in
    simp (ne_eqb _ _ c.if-kind-eq6.false, eq-eqb _ _ c.if-kind-ne4.false, lt-ltb low (2 ^ 32) under)
