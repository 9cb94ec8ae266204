-- By the record's counter: 15, or the keep-alive written, the challenge held, and the ask to seal.
use Prim.Native.Nat.{◌^◌, ◌<◌}
use Rattle.opens.proofs.Ways.{keep_alive_fits, connecting_late, connecting_asks}
use borrow.Author.Rules.{rules}
use Rattle.opens.proofs.responses.ask_connecting.Goals as goal

pub returns-then-sequence : goal.returns-then-sequence
returns-then-sequence c =
    let a = c.args in
    connecting_late a.server a.datagram a.held.now a.out.now a.j a.i _ _ a.token _ c.sequence-sequence.ensures c.if-sequence.true _
    c.closed.ensures

pub write_packet-ask-requires : goal.write_packet-ask-requires
write_packet-ask-requires c =
    let b : c.sequence-sequence.result < 256 ^ 8 = search rules in
    keep_alive_fits _ _ c.args.i _ _ c.keep_alive-packet.ensures b c.requires.3

pub returns : goal.returns
returns c =
    let a = c.args in
    connecting_asks a.server a.datagram a.held.now a.out.now a.j a.i _ _ a.token _ c.sequence-sequence.ensures c.if-sequence.false _
    c.send_key-key.ensures _ c.keep_alive-packet.ensures
    _ _ c.write_packet-ask.ensures _ c.hold_challenge.ensures _ c.asking.ensures
