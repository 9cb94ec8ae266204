-- What the shared test came to decides, and then the output's length.
use Rattle.std.proofs.Common.{rules, ◌≡◌, Err}
use borrow.Author.Tests.{lt-ltb, le-ltb}
use Rattle.serialize.specs.Choice.{pick}
use Rattle.turns.specs.Outcomes.{open_verdict}
use Rattle.turns.proofs.open_refusal.Goals as goal

pub returns-in_err-answer_refusal : goal.returns-in_err-answer_refusal
unfolding open_verdict
returns-in_err-answer_refusal c =
    let e : c.from_residual.result ≡ Err c.in_err-answer_refusal.field-0.0 = search rules in
    simp (← c.answer_refusal.ensures, c.in_err-answer_refusal.was, e)

pub returns-then-out-lt-NETCODE_MAX_PACKET_BYTES : goal.returns-then-out-lt-NETCODE_MAX_PACKET_BYTES
unfolding open_verdict pick
returns-then-out-lt-NETCODE_MAX_PACKET_BYTES c =
    simp (← c.answer_refusal.ensures, c.in_ok-answer_refusal.was, lt-ltb _ _ c.if-out-lt-NETCODE_MAX_PACKET_BYTES.true)

pub returns : goal.returns
unfolding open_verdict pick
returns c = simp (← c.answer_refusal.ensures, c.in_ok-answer_refusal.was, le-ltb _ _ c.if-out-lt-NETCODE_MAX_PACKET_BYTES.false)
