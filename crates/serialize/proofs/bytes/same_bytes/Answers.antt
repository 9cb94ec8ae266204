-- `==` on the two parts is the test of the definition.
use mathlib.Core.Path.{◌≡◌, ap, ap₂, ◌∙◌}
use Prim.Native.Nat.{◌+◌, ◌-◌}
use native.Mathlib.Omega.{arith}
use lib.Pointwise.{pointwise}
use lib.Dec.{eqb}
use Rattle.serialize.specs.Runs.{part}
use Rattle.serialize.proofs.Lists.{pointwise_alike}
use Rattle.serialize.proofs.bytes.same_bytes.Goals as goal

pub returns : goal.returns
returns c =
    let a = c.args in
    let p : a.at + a.n - a.at ≡ a.n = omega arith in
    let q : a.from + a.n - a.from ≡ a.n = omega arith in
    c.eq.ensures
    ∙ ap₂ (pointwise eqb) (ap (part a.a.now a.at) p) (ap (part a.b.now a.from) q)
    ∙ pointwise_alike (part a.a.now a.at a.n) (part a.b.now a.from a.n)
