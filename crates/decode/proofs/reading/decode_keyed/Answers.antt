-- The head says how it goes on.
use mathlib.Core.Path.{sym, ap, ◌∙◌}
use Rattle.decode.specs.Decodes.{by_start}
use Rattle.decode.proofs.reading.decode_keyed.Goals as goal

pub returns-in-Err : goal.returns-in-Err
returns-in-Err c =
    let s = c.args in
    c.ended.ensures ∙ ap (by_start s.datagram.now s.kind s.protocol_id s.key s.guard) (sym c.in-Err.is ∙ c.read_start.ensures)

pub returns-in-Ok : goal.returns-in-Ok
returns-in-Ok c =
    let s = c.args in
    c.decode_at.ensures ∙ ap (by_start s.datagram.now s.kind s.protocol_id s.key s.guard) (sym c.in-Ok.is ∙ c.read_start.ensures)
