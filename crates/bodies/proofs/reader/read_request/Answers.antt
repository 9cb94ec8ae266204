-- The two numbers are fields of the body.
use mathlib.Core.Path.{ap₂, ◌∙◌}
use native.Mathlib.Omega.{arith}
use Rattle.bodies.specs.declared.Packet.TheVariants.{ConnectionRequest}
use Rattle.bodies.proofs.Fields.{field_at}
use Rattle.bodies.proofs.reader.read_request.Goals as goal

pub returns : goal.returns
returns c =
    let a = c.args in
    ap₂ ConnectionRequest (c.read_u64-protocol_id.ensures ∙ field_at a.src.now a.at a.n 13 8 (omega (arith, c.requires))) (c.read_u64-expire_timestamp.ensures ∙ field_at a.src.now a.at a.n 21 8 (omega (arith, c.requires)))
