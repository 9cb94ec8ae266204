-- Each test is one of the call's own.
use mathlib.Core.Path.{refl, sym, ◌∙◌}
use Rattle.refusal.proofs.Laws.{is_err_none}
use Rattle.netcode.proofs.Quickly.{other_seen, lets}
use Rattle.netcode.proofs.hearing.look.Goals as goal

pub returns-then-words-ne0 : goal.returns-then-words-ne0
returns-then-words-ne0 c = let a = c.args in other_seen a.words.now a.slots.now a.pending.now a.addr a.out a.datagram.now

pub returns-then-is_err : goal.returns-then-is_err
returns-then-is_err c = let a = c.args in other_seen a.words.now a.slots.now a.pending.now a.addr a.out a.datagram.now

pub returns-then-out-lt-NETCODE_MAX_PACKET_BYTES : goal.returns-then-out-lt-NETCODE_MAX_PACKET_BYTES
returns-then-out-lt-NETCODE_MAX_PACKET_BYTES c = let a = c.args in other_seen a.words.now a.slots.now a.pending.now a.addr a.out a.datagram.now

pub returns-then-is_err-2 : goal.returns-then-is_err-2
returns-then-is_err-2 c = let a = c.args in other_seen a.words.now a.slots.now a.pending.now a.addr a.out a.datagram.now

pub find-requires : goal.find-requires
find-requires c =
    let a = c.args in
    lets a.words.now a.slots.now a.pending.now a.addr a.out a.datagram.now c.if-words-ne0.false
    _ refl (is_err_none _ c.tables_refusal.result c.tables_refusal.ensures (sym c.is_err.ensures.value ∙ c.if-is_err.false)) c.if-out-lt-NETCODE_MAX_PACKET_BYTES.false
    _ refl (is_err_none _ c.refusal.result c.refusal.ensures (sym c.is_err-2.ensures.value ∙ c.if-is_err-2.false))
