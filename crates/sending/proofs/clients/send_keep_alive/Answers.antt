-- A keep-alive is sealed and has nothing beside it.
use mathlib.Core.Path.{ap}
use native.Mathlib.Omega.{arith}
use Rattle.bodies.specs.declared.Packet.{Packet}
use Rattle.bodies.specs.Kinds.{is_request}
use Rattle.bodies.specs.Bodies.{kind_of, wants}
use Rattle.sending.proofs.Ways.{alive_sends}
use Rattle.sending.proofs.clients.send_keep_alive.Goals as goal

pub send-requires : goal.send-requires
send-requires c =
    let e = c.keep_alive-packet.ensures in
    (c.requires.0, c.requires.1, ap (λ (x : Packet). is_request (kind_of x)) e, ap (λ (x : Packet). wants (kind_of x)) e, omega arith)

pub returns : goal.returns
returns c =
    let a = c.args in
    alive_sends a.server a.slots.now a.i a.out.now _ c.keep_alive-packet.ensures _ c.send.ensures
