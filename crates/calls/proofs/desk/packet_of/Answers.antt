-- Each type has its packet.
use mathlib.Core.Path.{sym, ap}
use Rattle.calls.specs.Desk.{packet_of}
use Rattle.bodies.specs.declared.PacketType.{PacketType}
use Rattle.calls.proofs.desk.packet_of.Goals as goal

pub returns-in-ConnectionRequest : goal.returns-in-ConnectionRequest
returns-in-ConnectionRequest c = sym (ap (λ (k : PacketType). packet_of k c.args.a c.args.b) c.in-ConnectionRequest.is)

pub returns-in-Challenge : goal.returns-in-Challenge
returns-in-Challenge c = sym (ap (λ (k : PacketType). packet_of k c.args.a c.args.b) c.in-Challenge.is)

pub returns-in-Response : goal.returns-in-Response
returns-in-Response c = sym (ap (λ (k : PacketType). packet_of k c.args.a c.args.b) c.in-Response.is)

pub returns-in-KeepAlive : goal.returns-in-KeepAlive
returns-in-KeepAlive c = simp (c.low-in-KeepAlive.ensures, c.low.ensures, c.in-KeepAlive.is)
