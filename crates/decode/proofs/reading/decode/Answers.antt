-- The type says how it goes on.
use mathlib.Core.Path.{sym, ap, ◌∙◌}
use Rattle.decode.specs.Decodes.{by_kind, decode}
use Rattle.decode.proofs.Ways.{typed_long}
use Rattle.decode.proofs.reading.decode.Goals as goal

pub decode_of-requires : goal.decode_of-requires
decode_of-requires c = typed_long _ _ (sym c.read_type.ensures ∙ c.in-Ok.is)

pub returns-in-Err : goal.returns-in-Err
unfolding decode
returns-in-Err c =
    let s = c.args in
    c.ended.ensures ∙ ap (by_kind s.datagram.now s.protocol_id s.private_key s.guard) (sym c.in-Err.is ∙ c.read_type.ensures)

pub returns-in-Ok : goal.returns-in-Ok
unfolding decode
returns-in-Ok c =
    let s = c.args in
    c.decode_of.ensures ∙ ap (by_kind s.datagram.now s.protocol_id s.private_key s.guard) (sym c.in-Ok.is ∙ c.read_type.ensures)
