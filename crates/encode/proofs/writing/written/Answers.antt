-- A request is whole, every other packet asks.
use mathlib.Core.Path.{ap, ◌∙◌}
use mathlib.Core.List.{List}
use Prim.Native.Nat.{ℕ, ◌+◌}
use native.Mathlib.Omega.{arith}
use Rattle.asks.specs.declared.Work.TheVariants.{Seal}
use Rattle.asks.specs.Asks.{packet_ask}
use Rattle.asks.proofs.Lent.{told}
use Rattle.encode.proofs.Ways.{written_whole, written_asked}
use Rattle.encode.proofs.writing.written.Goals as goal

pub returns-then-is_request : goal.returns-then-is_request
returns-then-is_request c =
    let s = c.args in
    let a = c.body_at-start.ensures.0 in
    let l = c.body_len.ensures in
    let t = c.tag_places.ensures.0 in
    written_whole s.room s.kind s.given s.protocol_id s.private_key s.sequence (omega arith) (told c.is_request.ensures c.if-is_request.true) c.answered.ensures

pub returns : goal.returns
returns c =
    let s = c.args in
    let a = c.body_at-start.ensures.0 in
    let l = c.body_len.ensures in
    let t = c.tag_places.ensures.0 in
    written_asked s.room s.kind s.given s.protocol_id s.private_key s.sequence (omega arith) (told c.is_request.ensures c.if-is_request.false) a c.to_u8.ensures c.encode_prefix-prefix_byte.ensures (c.packet_ask-ask.ensures ∙ ap (λ (k : List ℕ). packet_ask Seal k s.sequence c.encode_prefix-prefix_byte.result s.protocol_id c.body_at-start.result (c.body_at-start.result + c.body_len.result + c.tag_places.result)) c.unwrap_or-key.ensures)
