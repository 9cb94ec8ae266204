-- The number of a challenge or a response is the first field of its body.
use mathlib.Core.Path.{ap, ◌∙◌}
use Prim.Native.Nat.{◌≤◌}
use native.Mathlib.Omega.{arith}
use Rattle.bodies.specs.declared.Packet.TheVariants.{Challenge, Response}
use Rattle.bodies.proofs.Fields.{first_at}
use Rattle.bodies.proofs.reader.read_numbers.Goals as goal

pub returns-in-Challenge : goal.returns-in-Challenge
returns-in-Challenge c =
    let a = c.args in
    let k : 308 ≤ a.n = rw c.in-Challenge.is at c.requires.1 in
    ap Challenge (c.read_u64.ensures ∙ first_at a.src.now a.at a.n 8 (omega arith)) ∙ simp c.in-Challenge.is

pub returns-in-Response : goal.returns-in-Response
returns-in-Response c =
    let a = c.args in
    let k : 308 ≤ a.n = rw c.in-Response.is at c.requires.1 in
    ap Response (c.read_u64-in-Response.ensures ∙ first_at a.src.now a.at a.n 8 (omega arith)) ∙ simp c.in-Response.is
