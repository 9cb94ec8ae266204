-- What the short way of a payload relies on. No reader needs to believe these: each call promises the same whichever way it goes.
use Rattle.std.specs.Prelude.{◌≡◌, true, ℕ, ◌+◌, ◌-◌, ◌≤◌, ◌<◌, List, [], ◌∷◌, length, get_or, Option, Some, None, Ok}
use Rattle.serialize.specs.Runs.{part, splice}
use Rattle.bodies.specs.declared.PacketType.{PacketType}
use Rattle.bodies.specs.declared.PacketType.TheVariants as kind
use Rattle.bodies.specs.Kinds.{windowed}
use Rattle.addresses.specs.declared.Address.{Address}
use Rattle.decode.specs.Decodes.{start_as, start_at}
use Rattle.places.specs.Layout.{Shaped, id_of}
use Rattle.server.specs.declared.Stage.TheVariants.{Packet}
use Rattle.server.specs.declared.Answer.TheVariants.{Payload}
use Rattle.server.specs.State.{with_ask, idle}
use Rattle.server.specs.Asking.{no_ask}
use Rattle.turns.specs.Outcomes.{State, state, leaves}
use Rattle.arrivals.specs.Arrivals.{window_refusal, open_asked, arrives}
use Rattle.opens.specs.Opens.{open_answer_refusal}
use Rattle.opens.specs.Heard.{accepted, touched, confirmed}
use Rattle.netcode.specs.declared.Sealed.{Sealed}
use Rattle.netcode.specs.Laid.{stage_in, record_in}
use Rattle.netcode.specs.Told.{Desk, told_on}
use Rattle.netcode.specs.Calls.{yes?}

-- ---- the record's words with another step of the open ask, the rest as it stands

unfoldable pub step_words : List ℕ → ℕ → ℕ → ℕ → List ℕ → List ℕ
step_words w number datagram out rest =
    splice
    (splice w 6 (get_or w 6 0 ∷ get_or w 7 0 ∷ get_or w 8 0 ∷ get_or w 9 0 ∷ get_or w 10 0 ∷ number ∷ datagram ∷ out ∷ []))
    22 (part rest 0 12)

abbrev pub no_step : List ℕ
no_step = 0 ∷ 0 ∷ 0 ∷ 0 ∷ 0 ∷ 0 ∷ 0 ∷ 0 ∷ 0 ∷ 0 ∷ 0 ∷ 0 ∷ []

-- ---- a sealed packet of a slot

abbrev pub sealed_as : ℕ → PacketType → ℕ → ℕ → Sealed
sealed_as place kind sequence start = record { place = place; kind = kind; sequence = sequence; start = start }

-- what slot i's packet has passed
unfoldable pub Tested : List ℕ → ℕ → ℕ → PacketType → List ℕ → Option Sealed → Type 0
Tested slots n i kind d None = Unit {0}
Tested slots n i kind d (Some p) =
    (p.place ≡ i) × (p.kind ≡ kind) × (windowed kind ≡ true) × (start_at d ≡ Ok (start_as p.sequence p.start)) × (window_refusal slots n i kind p.sequence ≡ 0) × (p.start + 16 ≤ length d)

-- what is seen is to be opened: so the whole call says, and the slot is there
unfoldable pub Sees : State → Address → ℕ → List ℕ → Option Sealed → Type 0
Sees t addr out d None = Unit {0}
Sees t addr out d (Some p) =
    (arrives t addr out d ≡ leaves t (open_asked t.server t.slots t.server.set.slots true p.place p.kind p.sequence p.start out d))
    × Shaped t.slots t.server.set.slots × (p.place < t.server.set.slots) × (18 ≤ length d)

-- ---- a payload of a slot that the host has opened

pub record Opens (w : List ℕ) (granted : ℕ) : Type 0 where
  pub said : yes? granted ≡ true
  pub step : stage_in w ≡ Packet true (get_or w 22 0) kind.Payload (get_or w 25 0) (get_or w 26 0)

pub record Hears (w : List ℕ) (granted : ℕ) (slots pending : List ℕ) (datagram out : ℕ) : Type 0 where
  pub opens : Opens w granted
  pub fits : open_answer_refusal (state (record_in w) slots pending) datagram out ≡ 0
  pub shape : Shaped slots (get_or w 0 0)
  pub place : get_or w 22 0 < get_or w 0 0
  pub long : get_or w 26 0 + 16 ≤ datagram

-- the slots with the window moved and the received time set
abbrev pub received : List ℕ → List ℕ → List ℕ
received w slots = touched (record_in w) (accepted slots (get_or w 0 0) (get_or w 22 0) kind.Payload (get_or w 25 0)) (get_or w 0 0) (get_or w 22 0)

pub record Taken : Type 0 where
  pub id : ℕ
  pub slots : List ℕ

abbrev pub taken : ℕ → List ℕ → Taken
taken id slots = record { id = id; slots = slots }

-- its id, and the slots with it confirmed
abbrev pub payload_taken : List ℕ → List ℕ → Taken
payload_taken w slots = taken (id_of (received w slots) (get_or w 0 0) (get_or w 22 0)) (confirmed (received w slots) (get_or w 0 0) (get_or w 22 0))

pub record Heard : Type 0 where
  pub desk : Desk
  pub slots : List ℕ

abbrev pub heard : Desk → List ℕ → Heard
heard d slots = record { desk = d; slots = slots }

abbrev pub payload_heard : Desk → List ℕ → ℕ → Heard
payload_heard d slots datagram =
    heard
    (told_on d (with_ask (record_in d.words) idle) (Payload (payload_taken d.words slots).id (get_or d.words 26 0) (datagram - 16)) no_ask)
    (payload_taken d.words slots).slots
