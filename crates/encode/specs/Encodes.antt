-- Encoding a packet (document 01, "When the server says no", `encode`: 3, then 14 for its whole need; "How the host answers").
use Rattle.std.specs.Prelude.{ℕ, ◌+◌, Bool, not, ◌&&◌, List, ◌++◌, length, eqb, ltb, Option, Some, None, is_some}
use Rattle.serialize.specs.Choice.{pick}
use Rattle.serialize.specs.Runs.{splice}
use Rattle.prefix.specs.Head.{fewest, prefix_byte, head_bytes}
use Rattle.bodies.specs.declared.PacketType.{PacketType}
use Rattle.bodies.specs.declared.Packet.{Packet}
use Rattle.bodies.specs.Kinds.{number_of, is_request}
use Rattle.bodies.specs.Bodies.{kind_of, wants, body_length, body}
use Rattle.asks.specs.declared.Ask.{Ask}
use Rattle.asks.specs.declared.Work.TheVariants.{Seal}
use Rattle.encode.specs.declared.Encoding.{Encoding}
use Rattle.encode.specs.declared.Encoding.TheVariants.{Refused, Asked, Length}
use Rattle.encode.specs.declared.Sealing.{Sealing}
use Rattle.encode.specs.declared.Encoded.{Encoded}
use Rattle.asks.specs.Asks.{no_ask, packet_ask, key_bytes, unlike}

-- what a call comes to, and the buffer then
pub record Done : Type 0 where
  pub encoded : Encoded
  pub out : List ℕ

abbrev pub done : Encoded → List ℕ → Done
done encoded out = record { encoded = encoded; out = out }

abbrev pub encoded_as : Encoding → Ask → Option Sealing → Encoded
encoded_as answer ask sealing = record { answer = answer; ask = ask; sealing = sealing }

-- an ask that is open: where its part ends, and the length of its buffer
abbrev pub open_at : ℕ → ℕ → Option Sealing
open_at end len = Some (record { end = end; len = len })

abbrev pub refused_by : ℕ → Encoded
refused_by n = encoded_as (Refused n) no_ask None

-- the sequence that a head shows, and the places of the tag: a request's head shows 0 and it has no tag
unfoldable pub shown : PacketType → ℕ → ℕ
shown kind sequence = pick (is_request kind) 0 sequence

unfoldable pub tag_places : PacketType → ℕ
tag_places kind = pick (is_request kind) 0 16

-- where the body starts, and the whole need: prefix byte, sequence bytes, body, tag
abbrev pub body_at : PacketType → ℕ → ℕ
body_at kind sequence = 1 + fewest (shown kind sequence)

abbrev pub need : PacketType → ℕ → ℕ → ℕ
need kind given sequence = body_at kind sequence + body_length kind given + tag_places kind

-- the packet up to its tag place: head and body
abbrev pub clear : Packet → List ℕ → ℕ → List ℕ
clear packet bytes sequence = head_bytes (number_of (kind_of packet)) (shown (kind_of packet) sequence) ++ body packet bytes

-- the number that refuses, 0 for none: no key, and not a request; a buffer shorter than the need; too few bytes beside the packet
unfoldable pub unencodable : ℕ → PacketType → ℕ → Bool → ℕ → ℕ
unencodable room kind given keyed sequence =
    pick (not keyed && not (is_request kind)) 3
    (pick (ltb room (need kind given sequence)) 14
    (pick (ltb given (wants kind)) 9
    0))

-- what is written leads to: a request is whole, every other packet is to be sealed from its body on
unfoldable pub written_as : ℕ → PacketType → ℕ → ℕ → Option (List ℕ) → ℕ → Encoded
written_as room kind given protocol key sequence =
    pick (is_request kind)
    (encoded_as (Length (need kind given sequence)) no_ask None)
    (encoded_as Asked
    (packet_ask Seal (key_bytes key) sequence (prefix_byte (number_of kind) (fewest sequence)) protocol (body_at kind sequence) (need kind given sequence))
    (open_at (need kind given sequence) room))

-- a refusal leaves the buffer as it was; else head and body are written from its start, and nothing past them
unfoldable pub encode : List ℕ → Packet → List ℕ → ℕ → Option (List ℕ) → ℕ → Done
encode out packet bytes protocol key sequence =
    pick (eqb (unencodable (length out) (kind_of packet) (length bytes) (is_some key) sequence) 0)
    (done (written_as (length out) (kind_of packet) (length bytes) protocol key sequence) (splice out 0 (clear packet bytes sequence)))
    (done (refused_by (unencodable (length out) (kind_of packet) (length bytes) (is_some key) sequence)) out)

-- the host's answer to an ask to seal: 17 where none is open; 18, and it stays open, for a buffer of another length or an end that
-- the buffer does not have; no is 24; yes gives the length
unfoldable pub answer_seal_open : ℕ → ℕ → ℕ → Bool → Encoded
answer_seal_open end len room granted =
    pick (unlike end 0 len room) (encoded_as (Refused 18) no_ask (open_at end len))
    (pick granted (encoded_as (Length end) no_ask None) (refused_by 24))

abbrev pub answer_seal : Option Sealing → ℕ → Bool → Encoded
answer_seal None room granted = refused_by 17
answer_seal (Some sealing) room granted = answer_seal_open sealing.end sealing.len room granted
