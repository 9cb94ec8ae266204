-- A packet in the output, and the ask to seal it (document 01, "How the host answers": at its first ask to seal, a call has written the
-- packet from the output's start, tag places excepted, and nothing else there).
use Rattle.std.specs.Prelude.{ℕ, ◌-◌, ◌%◌, ◌^◌, List, [], length, eqb}
use Rattle.serialize.specs.Choice.{pick}
use Rattle.serialize.specs.Runs.{splice}
use Rattle.prefix.specs.Head.{fewest, prefix_byte}
use Rattle.bodies.specs.declared.Packet.{Packet}
use Rattle.bodies.specs.declared.Packet.TheVariants.{ConnectionDenied, KeepAlive}
use Rattle.bodies.specs.Kinds.{number_of}
use Rattle.bodies.specs.Bodies.{kind_of}
use Rattle.asks.specs.declared.Work.TheVariants.{Seal}
use Rattle.asks.specs.Asks.{packet_ask}
use Rattle.addresses.specs.declared.Address.{Address}
use Rattle.encode.specs.Encodes.{body_at, need, clear}
use Rattle.server.specs.declared.NetcodeServer.{NetcodeServer}
use Rattle.server.specs.declared.Ask.{Ask}
use Rattle.server.specs.declared.Goal.TheVariants.{Denied}
use Rattle.server.specs.declared.Stage.TheVariants as stage
use Rattle.server.specs.declared.Answer.TheVariants.{Refused}
use Rattle.server.specs.Asking.{asked}
use Rattle.turns.specs.declared.Turn.{Turn}
use Rattle.turns.specs.Outcomes.{asking, closed}

-- a slot's keep-alive: its index, and the client limit in the 32 bits that its field has
abbrev pub keep_alive : ℕ → ℕ → Packet
keep_alive limit i = KeepAlive i (limit % 4294967296)

-- the ask to seal a packet that has so many bytes beside it, under a key and a sequence
unfoldable pub seal_ask_with : Packet → ℕ → ℕ → List ℕ → ℕ → Ask
seal_ask_with packet given protocol key sequence =
    asked (packet_ask Seal key sequence (prefix_byte (number_of (kind_of packet)) (fewest sequence)) protocol
    (body_at (kind_of packet) sequence) (need (kind_of packet) given sequence))

-- the output with that packet in clear from its start
unfoldable pub seal_out_with : List ℕ → Packet → List ℕ → ℕ → List ℕ
seal_out_with out packet bytes sequence = splice out 0 (clear packet bytes sequence)

-- the same of a packet that has none
abbrev pub seal_ask : Packet → ℕ → List ℕ → ℕ → Ask
seal_ask packet protocol key sequence = seal_ask_with packet 0 protocol key sequence

abbrev pub seal_out : List ℕ → Packet → ℕ → List ℕ
seal_out out packet sequence = seal_out_with out packet [] sequence

-- what a function that writes a packet gives, and the output then
pub record Sealing : Type 0 where
  pub ask : Ask
  pub out : List ℕ

abbrev pub sealing : Ask → List ℕ → Sealing
sealing ask out = record { ask = ask; out = out }

-- what a function that answers gives, and the output then
pub record Spoken : Type 0 where
  pub turn : Turn
  pub out : List ℕ

abbrev pub spoken : Turn → List ℕ → Spoken
spoken r out = record { turn = r; out = out }

-- the same of one that is lent the held bytes too
pub record Prepared : Type 0 where
  pub turn : Turn
  pub held : List ℕ
  pub out : List ℕ

abbrev pub prepared : Turn → List ℕ → List ℕ → Prepared
prepared r held out = record { turn = r; held = held; out = out }

-- the held bytes as they were
abbrev pub holding : List ℕ → Spoken → Prepared
holding held x = prepared x.turn held x.out

-- denied under the global sequence; 15 where that is 2^64-1
unfoldable pub denied : NetcodeServer → ℕ → List ℕ → List ℕ → Address → Spoken
denied s datagram out key addr =
    pick (eqb s.counters.global_sequence (2 ^ 64 - 1)) (spoken (closed s (Refused 15)) out)
    (spoken
    (asking s (stage.Seal (Denied addr) s.counters.global_sequence (need (kind_of ConnectionDenied) 0 s.counters.global_sequence)) datagram (length out)
    (seal_ask ConnectionDenied s.set.protocol_id key s.counters.global_sequence))
    (seal_out out ConnectionDenied s.counters.global_sequence))
