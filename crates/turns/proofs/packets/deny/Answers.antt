-- By the counter: 15, or the packet written and the ask to seal it.
use mathlib.Core.Path.{refl}
use Prim.Native.Nat.{◌^◌, ◌<◌}
use native.Mathlib.Omega.{arith}
use Rattle.turns.proofs.Ways.{denied_short, denied_late, denied_asks}
use borrow.Author.Rules.{rules}
use Rattle.turns.proofs.packets.deny.Goals as goal

pub returns-then-sequence : goal.returns-then-sequence
returns-then-sequence c =
    let a = c.args in
    denied_late a.server a.datagram a.out.now a.key a.addr c.if-sequence.true _ c.closed.ensures

pub write_packet-ask-requires : goal.write_packet-ask-requires
write_packet-ask-requires c =
    let g = c.args.server.counters.global_sequence in
    let b : g < 256 ^ 8 = search rules in
    let k = denied_short g b in
    let p = c.requires in
    (refl, refl, omega arith)

pub returns : goal.returns
returns c =
    let a = c.args in
    denied_asks a.server a.datagram a.out.now a.key a.addr c.if-sequence.false _ _ c.write_packet-ask.ensures _ c.asking.ensures
