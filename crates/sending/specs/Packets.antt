-- What the server sends a connected pump of its own accord (document 01, "When the server says no", for sending: 16, 23, 21, 22, 15, 14; 14 is for
-- the packet's whole need; "How the host answers": the packet stands in the output from its start, to be sealed there).
use Rattle.std.specs.Prelude.{ℕ, ◌-◌, ◌^◌, List, length, eqb, ltb, Option, Some, None}
use Rattle.serialize.specs.Choice.{pick}
use Rattle.bodies.specs.declared.Packet.{Packet}
use Rattle.bodies.specs.declared.Packet.TheVariants.{Payload, Disconnect}
use Rattle.bodies.specs.Bodies.{kind_of}
use Rattle.addresses.specs.declared.Address.{Address}
use Rattle.encode.specs.Encodes.{need}
use Rattle.places.specs.Layout.{word_of, sequence_at, send_key_at, address_of}
use Rattle.places.specs.Finds.{find_id}
use Rattle.records.specs.Records.{bytes_at, emptied}
use Rattle.server.specs.declared.NetcodeServer.{NetcodeServer}
use Rattle.server.specs.declared.Goal.TheVariants.{Sending, Ending}
use Rattle.server.specs.declared.Stage.TheVariants.{Seal}
use Rattle.server.specs.declared.Answer.TheVariants.{ClientDisconnected}
use Rattle.server.specs.Ready.{call_refusal, slots_refusal, before}
use Rattle.turns.specs.declared.Turn.{Turn}
use Rattle.turns.specs.Outcomes.{answered, refused, asking}
use Rattle.turns.specs.Packets.{seal_ask_with, seal_out_with, seal_ask, seal_out, Spoken, spoken}

-- the send key and the counter of slot i
abbrev pub send_key_of : NetcodeServer → List ℕ → ℕ → List ℕ
send_key_of s slots i = bytes_at slots (send_key_at s.set.slots i) 4

abbrev pub counter_of : NetcodeServer → List ℕ → ℕ → ℕ
counter_of s slots i = word_of slots (sequence_at s.set.slots i)

-- 16, 23: the slots are the one table that these calls are lent
abbrev pub ready_refusal : NetcodeServer → ℕ → ℕ
ready_refusal s slots = call_refusal s.ask (slots_refusal s.set slots)

-- ---- a packet that its slot goes on after: 15, 14, or to be sealed. Nothing of the slot changes before the host's yes.

unfoldable pub sending_under : NetcodeServer → ℕ → Packet → List ℕ → List ℕ → ℕ → List ℕ → Spoken
sending_under s i packet bytes key sequence out =
    pick (eqb sequence (2 ^ 64 - 1)) (spoken (refused s 15) out)
    (pick (ltb (length out) (need (kind_of packet) (length bytes) sequence)) (spoken (refused s 14) out)
    (spoken
    (asking s (Seal (Sending i) sequence (need (kind_of packet) (length bytes) sequence)) 0 (length out)
    (seal_ask_with packet (length bytes) s.set.protocol_id key sequence))
    (seal_out_with out packet bytes sequence)))

-- under the slot's own counter and send key
abbrev pub sending : NetcodeServer → List ℕ → ℕ → Packet → List ℕ → List ℕ → Spoken
sending s slots i packet bytes out = sending_under s i packet bytes (send_key_of s slots i) (counter_of s slots i) out

-- ---- a payload

-- 21: payload over the limit
unfoldable pub limit_refusal : ℕ → ℕ
limit_refusal payload = pick (ltb 1300 payload) 21 0

-- 16, 23, 21
abbrev pub payload_refusal : NetcodeServer → ℕ → ℕ → ℕ
payload_refusal s slots payload = before (ready_refusal s slots) (limit_refusal payload)

-- by the lowest slot with the id: 22 where there is none
unfoldable pub by_client : NetcodeServer → List ℕ → List ℕ → List ℕ → Option ℕ → Spoken
by_client s slots payload out (Some i) = sending s slots i Payload payload out
by_client s slots payload out None = spoken (refused s 22) out

unfoldable pub generated : NetcodeServer → List ℕ → ℕ → List ℕ → List ℕ → Spoken
generated s slots id payload out =
    pick (eqb (payload_refusal s (length slots) (length payload)) 0) (by_client s slots payload out (find_id slots s.set.slots id))
    (spoken (refused s (payload_refusal s (length slots) (length payload))) out)

-- ---- the packet that ends a slot

-- what a call gives that may empty a slot, with slots and output then
pub record Served : Type 0 where
  pub turn : Turn
  pub slots : List ℕ
  pub out : List ℕ

abbrev pub served : Turn → List ℕ → List ℕ → Served
served r slots out = record { turn = r; slots = slots; out = out }

-- 15: the slot is empty, no packet comes and the answer says so. 14: nothing. Else the slot is empty before the disconnect is sealed, and stays so
-- whatever the host answers.
unfoldable pub ending_under : NetcodeServer → ℕ → List ℕ → ℕ → Address → List ℕ → ℕ → List ℕ → Served
ending_under s id slots i addr key sequence out =
    pick (eqb sequence (2 ^ 64 - 1)) (served (answered s (ClientDisconnected id addr 0 (Some 15))) (emptied slots i) out)
    (pick (ltb (length out) (need (kind_of Disconnect) 0 sequence)) (served (refused s 14) slots out)
    (served
    (asking s (Seal (Ending id addr) sequence (need (kind_of Disconnect) 0 sequence)) 0 (length out)
    (seal_ask Disconnect s.set.protocol_id key sequence))
    (emptied slots i)
    (seal_out out Disconnect sequence)))

abbrev pub ending : NetcodeServer → ℕ → List ℕ → ℕ → List ℕ → Served
ending s id slots i out = ending_under s id slots i (address_of slots s.set.slots i) (send_key_of s slots i) (counter_of s slots i) out
