-- What the short way of a sent payload relies on, and that of a client that nothing is due for. No reader needs to believe these: each call
-- promises the same whichever way it goes.
use Rattle.std.specs.Prelude.{◌≡◌, true, false, ℕ, ◌+◌, ◌-◌, ◌%◌, ◌^◌, ◌≤◌, ◌<◌, List, length, get_or, Option, Some, None}
use Rattle.bodies.specs.declared.PacketType.TheVariants as kind
use Rattle.bodies.specs.declared.Packet.TheVariants.{Payload}
use Rattle.encode.specs.Encodes.{need}
use Rattle.times.specs.declared.Time.{Time}
use Rattle.times.specs.Times.{time, due}
use Rattle.places.specs.Layout.{Shaped, word_of, sequence_at, send_key_at, received_at, sent_at, timeout_at, address_of}
use Rattle.places.specs.Finds.{find_id}
use Rattle.records.specs.Records.{bytes_at, time_at}
use Rattle.server.specs.declared.Goal.TheVariants.{Sending}
use Rattle.server.specs.declared.Stage.TheVariants.{Seal}
use Rattle.server.specs.declared.Answer.TheVariants as said
use Rattle.server.specs.State.{with_ask, idle}
use Rattle.server.specs.Asking.{no_ask}
use Rattle.server.specs.Ready.{slots_refusal, both_refusal}
use Rattle.turns.specs.Outcomes.{asking}
use Rattle.turns.specs.Packets.{seal_ask_with, seal_out_with, Spoken, spoken}
use Rattle.seals.specs.Waits.{sent_under}
use Rattle.sending.specs.Clients.{overdue_at, client_updated, idly}
use Rattle.netcode.specs.Laid.{set_up_in, record_in}
use Rattle.netcode.specs.Told.{Desk, told_on}
use Rattle.netcode.specs.Calls.{yes?}

-- ---- a payload that can be sent

-- slot i's counter, of n slots
abbrev pub counter_in : List ℕ → ℕ → ℕ → ℕ
counter_in slots n i = word_of slots (sequence_at n i)

-- slot i's counter can be raised, and an output of so many bytes holds its packet
pub record Room (slots : List ℕ) (n i payload out : ℕ) : Type 0 where
  pub more : counter_in slots n i ≡ 2 ^ 64 - 1 → ⊥
  pub room : need kind.Payload payload (counter_in slots n i) ≤ out

pub record Sendable (w : List ℕ) (id payload : ℕ) (slots : List ℕ) (out i : ℕ) : Type 0 where
  pub none : get_or w 11 0 ≡ 0
  pub fits : slots_refusal (set_up_in w) (length slots) ≡ 0
  pub small : payload ≤ 1300
  pub found : find_id slots (get_or w 0 0) id ≡ Some i
  pub shape : Shaped slots (get_or w 0 0)
  pub place : i < get_or w 0 0
  pub room : Room slots (get_or w 0 0) i payload out

unfoldable pub Sends : List ℕ → ℕ → ℕ → List ℕ → ℕ → Option ℕ → Type 0
Sends w id payload slots out None = Unit {0}
Sends w id payload slots out (Some i) = Sendable w id payload slots out i

-- the ask to seal it, and the output with it in clear
abbrev pub payload_sent : List ℕ → List ℕ → ℕ → List ℕ → List ℕ → Spoken
payload_sent w slots i payload out =
    spoken
    (asking (record_in w) (Seal (Sending i) (counter_in slots (get_or w 0 0) i) (need kind.Payload (length payload) (counter_in slots (get_or w 0 0) i))) 0 (length out)
    (seal_ask_with Payload (length payload) (get_or w 5 0) (bytes_at slots (send_key_at (get_or w 0 0) i) 4) (counter_in slots (get_or w 0 0) i)))
    (seal_out_with out Payload payload (counter_in slots (get_or w 0 0) i))

-- ---- a packet of a slot that the host has sealed

pub record SealsSent (w : List ℕ) (granted : ℕ) : Type 0 where
  pub said : yes? granted ≡ true
  pub step : get_or w 11 0 ≡ 8

pub record Sent (w : List ℕ) (granted : ℕ) (slots pending : List ℕ) (out : ℕ) : Type 0 where
  pub seals : SealsSent w granted
  pub fits : both_refusal (set_up_in w) (length slots) (length pending) ≡ 0
  pub same : out ≡ get_or w 13 0
  pub place : get_or w 23 0 < get_or w 0 0
  pub more : get_or w 25 0 + 1 < 18446744073709551616
  pub room : get_or w 26 0 ≤ out

-- the slots with its counter raised and its sent time set
abbrev pub slot_sent : List ℕ → List ℕ → List ℕ
slot_sent w slots = sent_under slots (get_or w 0 0) (get_or w 23 0) (get_or w 25 0) (time (get_or w 7 0) (get_or w 8 0))

pub record Noted : Type 0 where
  pub desk : Desk
  pub slots : List ℕ

abbrev pub noted : Desk → List ℕ → Noted
noted d slots = record { desk = d; slots = slots }

abbrev pub sent_noted : Desk → List ℕ → Noted
sent_noted d slots =
    noted
    (told_on d (with_ask (record_in d.words) idle)
    (said.PacketToSend (address_of slots (get_or d.words 0 0) (get_or d.words 23 0)) (get_or d.words 26 0)) no_ask)
    (slot_sent d.words slots)

-- ---- a client that nothing is due for

pub record Rests (slots : List ℕ) (n i : ℕ) (clock : Time) : Type 0 where
  pub alive : overdue_at (word_of slots (timeout_at n i) % 4294967296) (time_at slots (received_at n i)) clock ≡ false
  pub early : due (time_at slots (sent_at n i)) clock ≡ false

pub record Quiet (w : List ℕ) (id : ℕ) (slots : List ℕ) : Type 0 where
  pub none : get_or w 11 0 ≡ 0
  pub nothing : (out : List ℕ) → client_updated (record_in w) slots id out ≡ idly (record_in w) slots out

abbrev pub nothing_due : Desk → Desk
nothing_due d = told_on d (record_in d.words) said.Nothing no_ask
