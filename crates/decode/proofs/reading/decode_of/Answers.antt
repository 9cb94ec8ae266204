-- A request is read, every other packet is sealed.
use mathlib.Core.Path.{ap, ◌∙◌}
use native.Mathlib.Omega.{arith}
use Rattle.serialize.specs.Choice.{pick}
use Rattle.decode.specs.declared.Decoding.{Decoding}
use Rattle.decode.specs.Decodes.{ended, decode_of}
use Rattle.asks.proofs.Lent.{told}
use Rattle.decode.proofs.reading.decode_of.Goals as goal

pub read_opened-requires : goal.read_opened-requires
read_opened-requires c = (omega (arith, c.requires), omega arith)

pub returns-then-is_request : goal.returns-then-is_request
unfolding decode_of pick
returns-then-is_request c =
    let s = c.args in
    c.ended.ensures ∙ ap (λ (a : Decoding). ended a s.guard) c.read_opened.ensures ∙ simp (told c.is_request.ensures c.if-is_request.true)

pub returns : goal.returns
unfolding decode_of pick
returns c = c.decode_sealed.ensures ∙ simp (told c.is_request.ensures c.if-is_request.false)
