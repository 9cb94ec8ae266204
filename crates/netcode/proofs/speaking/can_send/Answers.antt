-- A test that fails says nothing; where all pass, each is a fact of what can be sent.
use mathlib.Core.Path.{sym, ◌∙◌}
use lib.ListN.{get_or}
use Rattle.sending.proofs.Ways.{found_below}
use Rattle.refusal.proofs.Laws.{is_err_none}
use Rattle.netcode.proofs.Speaks.{fitting_shaped, nothing_sends, can_send}
use Rattle.netcode.proofs.speaking.can_send.Goals as goal

pub returns-then-words-ne0 : goal.returns-then-words-ne0
returns-then-words-ne0 c =
    let a = c.args in
    nothing_sends a.words.now a.client_id a.payload a.slots.now a.out

pub returns-then-is_err : goal.returns-then-is_err
returns-then-is_err c =
    let a = c.args in
    nothing_sends a.words.now a.client_id a.payload a.slots.now a.out

pub returns-then-payload-gt-NETCODE_MAX_PAYLOAD_BYTES : goal.returns-then-payload-gt-NETCODE_MAX_PAYLOAD_BYTES
returns-then-payload-gt-NETCODE_MAX_PAYLOAD_BYTES c =
    let a = c.args in
    nothing_sends a.words.now a.client_id a.payload a.slots.now a.out

pub find_by_id-requires : goal.find_by_id-requires
find_by_id-requires c =
    let a = c.args in
    fitting_shaped a.words.now a.slots.now (is_err_none _ c.slots_refusal.result c.slots_refusal.ensures (sym c.is_err.ensures.value ∙ c.if-is_err.false))

pub has_room-requires : goal.has_room-requires
has_room-requires c =
    let a = c.args in
    let z = fitting_shaped a.words.now a.slots.now (is_err_none _ c.slots_refusal.result c.slots_refusal.ensures (sym c.is_err.ensures.value ∙ c.if-is_err.false)) in
    (z, found_below a.slots.now (get_or a.words.now 0 0) a.client_id z _ c.find_by_id.ensures _ c.in_ok-i.was, c.if-payload-gt-NETCODE_MAX_PAYLOAD_BYTES.false)

pub returns-then-has_room : goal.returns-then-has_room
returns-then-has_room c =
    let a = c.args in
    can_send a.words.now a.client_id a.payload a.slots.now a.out c.if-words-ne0.false (is_err_none _ c.slots_refusal.result c.slots_refusal.ensures (sym c.is_err.ensures.value ∙ c.if-is_err.false)) c.if-payload-gt-NETCODE_MAX_PAYLOAD_BYTES.false _
    c.find_by_id.ensures _ c.in_ok-i.was (c.has_room.ensures c.if-has_room.true)

pub returns : goal.returns
returns c =
    let a = c.args in
    nothing_sends a.words.now a.client_id a.payload a.slots.now a.out

pub returns-in_err-i : goal.returns-in_err-i
returns-in_err-i c =
    let a = c.args in
    rw c.from_residual.ensures (nothing_sends a.words.now a.client_id a.payload a.slots.now a.out)
