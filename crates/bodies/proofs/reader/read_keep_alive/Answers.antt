-- The two numbers are fields of the body.
use mathlib.Core.Path.{ap₂, ◌∙◌}
use native.Mathlib.Omega.{arith}
use Rattle.bodies.specs.declared.Packet.TheVariants.{KeepAlive}
use Rattle.bodies.proofs.Fields.{field_at, first_at}
use Rattle.bodies.proofs.reader.read_keep_alive.Goals as goal

pub returns : goal.returns
returns c =
    let a = c.args in
    ap₂ KeepAlive (c.read_u32-client_index.ensures ∙ first_at a.src.now a.at a.n 4 (omega (arith, c.requires))) (c.read_u32-max_clients.ensures ∙ field_at a.src.now a.at a.n 4 4 (omega (arith, c.requires)))
