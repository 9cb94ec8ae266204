-- Each arm is a case of the definition; the places of its goal are there.
use Rattle.seals.proofs.Ways.{connecting_fits, sending_fits, denied_sealed, token_sealed, packet_sealed, connecting_sealed, sending_sealed, ending_sealed}
use Rattle.seals.proofs.sealed.sealed.Goals as goal

pub connect-requires : goal.connect-requires
connect-requires c =
    let set = c.args.server.set in
    let k = connecting_fits c.args.goal set.slots set.pending c.requires.2 _ _ c.in-Connecting.is in
    (c.requires.0, c.requires.1, k.0, k.1, c.requires.3)

pub send-requires : goal.send-requires
send-requires c =
    let set = c.args.server.set in
    (c.requires.0, sending_fits c.args.goal set.slots set.pending c.requires.2 _ c.in-Sending.is, c.requires.3)

pub returns-in-Denied : goal.returns-in-Denied
returns-in-Denied c =
    let a = c.args in
    denied_sealed a.server a.slots.now a.pending.now a.held.now a.sequence a.end a.out a.goal
    _ c.in-Denied.is _ c.spend.ensures _ c.closed.ensures

pub returns-in-ChallengeToken : goal.returns-in-ChallengeToken
returns-in-ChallengeToken c =
    let a = c.args in
    token_sealed a.server a.slots.now a.pending.now a.held.now a.sequence a.end a.out a.goal
    _ c.in-ChallengeToken.is _ c.ask_packet.ensures

pub returns-in-ChallengePacket : goal.returns-in-ChallengePacket
returns-in-ChallengePacket c =
    let a = c.args in
    packet_sealed a.server a.slots.now a.pending.now a.held.now a.sequence a.end a.out a.goal
    _ c.in-ChallengePacket.is _ c.wait.ensures _ c.spend-in-ChallengePacket.ensures _ c.closed-in-ChallengePacket.ensures

pub returns-in-Connecting : goal.returns-in-Connecting
returns-in-Connecting c =
    let a = c.args in
    connecting_sealed a.server a.slots.now a.pending.now a.held.now a.sequence a.end a.out a.goal
    _ _ c.in-Connecting.is _ _ _ c.connect.ensures

pub returns-in-Sending : goal.returns-in-Sending
returns-in-Sending c =
    let a = c.args in
    sending_sealed a.server a.slots.now a.pending.now a.held.now a.sequence a.end a.out a.goal
    _ c.in-Sending.is _ _ c.send.ensures

pub returns-in-Ending : goal.returns-in-Ending
returns-in-Ending c =
    let a = c.args in
    ending_sealed a.server a.slots.now a.pending.now a.held.now a.sequence a.end a.out a.goal
    _ _ c.in-Ending.is _ c.closed-in-Ending.ensures
