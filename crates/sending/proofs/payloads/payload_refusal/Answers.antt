-- What the first test refuses, or what the limit says.
use Rattle.std.specs.Prelude.{Err}
use mathlib.Core.Path.{◌≡◌, refl, ◌∙◌}
use native.Mathlib.Omega.{arith}
use Rattle.refusal.proofs.Laws.{passed, refused_as, refused_some, passes, refuses_as}
use Rattle.sending.proofs.Ways.{payload_unready, payload_long, payload_passes}
use borrow.Author.Rules.{rules}
use Rattle.sending.proofs.payloads.payload_refusal.Goals as goal

pub returns-in_err-ready_refusal : goal.returns-in_err-ready_refusal
returns-in_err-ready_refusal c =
    let a = c.args in
    let e : c.from_residual.result ≡ Err c.in_err-ready_refusal.field-0.0 = search rules in
    let some = refused_some _ _ c.ready_refusal.ensures _ c.in_err-ready_refusal.was in
    e ∙ refuses_as _ _ some (payload_unready a.server a.slots a.payload _ (refused_as _ _ c.ready_refusal.ensures _ c.in_err-ready_refusal.was) some)

pub returns-then-payload-gt-NETCODE_MAX_PAYLOAD_BYTES : goal.returns-then-payload-gt-NETCODE_MAX_PAYLOAD_BYTES
returns-then-payload-gt-NETCODE_MAX_PAYLOAD_BYTES c =
    let a = c.args in
    refuses_as _ 21 (λ e. omega arith)
    (payload_long a.server a.slots a.payload _ (passed _ _ c.ready_refusal.ensures _ c.in_ok-ready_refusal.was) refl c.if-payload-gt-NETCODE_MAX_PAYLOAD_BYTES.true)

pub returns : goal.returns
returns c =
    let a = c.args in
    passes _
    (payload_passes a.server a.slots a.payload _ (passed _ _ c.ready_refusal.ensures _ c.in_ok-ready_refusal.was) refl c.if-payload-gt-NETCODE_MAX_PAYLOAD_BYTES.false)
