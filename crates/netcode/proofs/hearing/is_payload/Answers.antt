-- Each test is one of the answer's own.
use mathlib.Core.Path.{refl, sym, ◌∙◌}
use Rattle.refusal.proofs.Laws.{is_err_none}
use Rattle.netcode.proofs.Quickly.{never, hears_payload}
use Rattle.netcode.proofs.hearing.is_payload.Goals as goal

pub returns-then-is_err : goal.returns-then-is_err
returns-then-is_err c = never

pub returns-then-datagram-words : goal.returns-then-datagram-words
returns-then-datagram-words c = never

pub returns-then-out-words : goal.returns-then-out-words
returns-then-out-words c = never

pub returns-then-out-lt-NETCODE_MAX_PACKET_BYTES : goal.returns-then-out-lt-NETCODE_MAX_PACKET_BYTES
returns-then-out-lt-NETCODE_MAX_PACKET_BYTES c = never

pub returns-then-words : goal.returns-then-words
returns-then-words c = never

pub returns-then-is_payload_step : goal.returns-then-is_payload_step
returns-then-is_payload_step c =
    λ h.
    let a = c.args in
    hears_payload a.words.now a.granted a.slots.now a.pending.now a.datagram a.out (c.is_payload_step.ensures c.if-is_payload_step.true)
    _ refl (is_err_none _ c.tables_refusal.result c.tables_refusal.ensures (sym c.is_err.ensures.value ∙ c.if-is_err.false)) c.if-datagram-words.false c.if-out-words.false c.if-out-lt-NETCODE_MAX_PACKET_BYTES.false c.if-words.false c.past.result c.past.ensures h

pub returns : goal.returns
returns c = never
