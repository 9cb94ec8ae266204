-- The call's own tests let the datagram through, and the slot's packet has passed the rest.
use Rattle.decode.proofs.Ways.{typed_long}
use mathlib.Core.Path.{sym, ◌∙◌}
use Rattle.netcode.proofs.Quickly.{had, other_seen, seen_shape, seen_place, sees}
use Rattle.netcode.proofs.hearing.find.Goals as goal

pub find_by_address-requires : goal.find_by_address-requires
find_by_address-requires c = let a = c.args in seen_shape a.words.now a.slots.now a.pending.now a.addr a.out a.datagram.now c.requires

pub test-requires : goal.test-requires
test-requires c =
    let a = c.args in
    (seen_shape a.words.now a.slots.now a.pending.now a.addr a.out a.datagram.now c.requires, seen_place a.words.now a.slots.now a.pending.now a.addr a.out a.datagram.now c.requires c.find_by_address.result c.find_by_address.ensures _ c.in_ok-i.was, typed_long a.datagram.now _ (sym c.read_type.ensures ∙ had c.read_type.result c.ok.result c.ok.ensures.value _ c.in_ok-kind.was))

pub returns-in_err-kind : goal.returns-in_err-kind
returns-in_err-kind c = let a = c.args in rw c.from_residual.ensures (other_seen a.words.now a.slots.now a.pending.now a.addr a.out a.datagram.now)

pub returns : goal.returns
returns c =
    let a = c.args in
    sees a.words.now a.slots.now a.pending.now a.addr a.out a.datagram.now c.requires _ c.read_type.result c.read_type.ensures (had c.read_type.result c.ok.result c.ok.ensures.value _ c.in_ok-kind.was) c.find_by_address.result c.find_by_address.ensures _ c.in_ok-i.was
    c.test.result c.test.ensures

pub returns-in_err-i : goal.returns-in_err-i
returns-in_err-i c = let a = c.args in rw c.from_residual-in_err-i.ensures (other_seen a.words.now a.slots.now a.pending.now a.addr a.out a.datagram.now)
