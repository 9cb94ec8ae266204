-- Document 01's table, "When the server says no", for a datagram: each number with what it is given for, after the lines that come before it in
-- the order 16, 23, 14, 19, 1, 2; type 0 then 9, 10, 11, 12; others 3, 4, 5, 6, 7; and what each leaves changed.
use Rattle.std.specs.Prelude.{ℕ, ◌+◌, ◌%◌, ◌^◌, ◌≤◌, ◌<◌, ◌≡◌, true, false, List, length, get_or}
use Rattle.replay_protection.specs.Replay.{refuses}
use Rattle.replay_protection.specs.Stored.{window_at}
use Rattle.replay_protection.specs.Ours.{width}
use Rattle.bodies.specs.declared.PacketType.{PacketType}
use Rattle.bodies.specs.Kinds.{number_of, windowed, is_request}
use Rattle.prefix.specs.Sealed.{version}
use Rattle.addresses.specs.declared.Address.{Address}
use Rattle.addresses.specs.Addresses.{well_formed}
use Rattle.places.specs.Layout.{received_at, window_place}
use Rattle.records.specs.Records.{put_time}
use Rattle.decode.specs.Decodes.{count_of, sequence_of}
use Rattle.server.specs.declared.Stage.TheVariants.{Idle}
use Rattle.server.specs.Ready.{both_refusal}
use Rattle.turns.specs.Outcomes.{State, state}
use Rattle.arrivals.specs.declared.Sender.TheVariants.{Connected, Pending, Unknown}
use Rattle.arrivals.specs.Requests.{version_in, protocol_in, expiry_in}
use Rattle.arrivals.specs.Arrivals.{sender_in}

-- no ask is open; the tables are set-up's; the output has 1,400 bytes; the address is well-formed
pub record Idly (t : State) : Type 0 where
  pub idle : t.server.ask.stage ≡ Idle

pub record Tabled (t : State) : Type 0 where
  pub idly : Idly t
  pub tables : both_refusal t.server.set (length t.slots) (length t.pending) ≡ 0

pub record Taken (t : State) (addr : Address) (out : ℕ) : Type 0 where
  pub tabled : Tabled t
  pub room : 1400 ≤ out
  pub formed : well_formed addr.kind addr.low addr.high ≡ true

-- the datagram has 18 bytes or more, and a type
pub record Typed (t : State) (addr : Address) (out : ℕ) (d : List ℕ) (kind : PacketType) : Type 0 where
  pub taken : Taken t addr out
  pub long : 18 ≤ length d
  pub type : get_or d 0 0 % 16 ≡ number_of kind

-- a request of 1,078 bytes or more whose sender is not connected
pub record Asking (t : State) (addr : Address) (out : ℕ) (d : List ℕ) : Type 0 where
  pub kind : PacketType
  pub typed : Typed t addr out d kind
  pub request : is_request kind ≡ true
  pub whole : 1078 ≤ length d
  pub stranger : (i : ℕ) → sender_in t addr ≡ Connected i → ⊥

-- a sealed packet, and the place of its sender: table, number of places, place
pub data Stands (t : State) (addr : Address) : List ℕ → ℕ → ℕ → Type 0 where
  in_slot : (i : ℕ) → sender_in t addr ≡ Connected i → Stands t addr t.slots t.server.set.slots i
  waits : (j : ℕ) → sender_in t addr ≡ Pending j → Stands t addr t.pending t.server.set.pending j

pub record Sent (t : State) (addr : Address) (out : ℕ) (d : List ℕ) (kind : PacketType) (table : List ℕ) (n i : ℕ) : Type 0 where
  pub typed : Typed t addr out d kind
  pub sealed : is_request kind ≡ false
  pub stands : Stands t addr table n i

-- a windowed sequence is below 2^64-256, and the sender's window does not refuse it
pub record Passes (table : List ℕ) (n i : ℕ) (kind : PacketType) (sequence : ℕ) : Type 0 where
  pub below : windowed kind ≡ true → sequence + width < 2 ^ 64
  pub new : windowed kind ≡ true → refuses width (window_at width table (window_place n i)) sequence ≡ false

pub data ArrivalSays (t : State) (addr : Address) (out : ℕ) (d : List ℕ) : ℕ → Type 0 where
  -- 16: an ask is open
  says_16 : (t.server.ask.stage ≡ Idle → ⊥) → ArrivalSays t addr out d 16
  -- 23: a length unlike set-up's
  says_23 : Idly t → (both_refusal t.server.set (length t.slots) (length t.pending) ≡ 0 → ⊥) → ArrivalSays t addr out d 23
  -- 14: reply buffer under 1,400
  says_14 : Tabled t → out < 1400 → ArrivalSays t addr out d 14
  -- 19: malformed address
  says_19 : Tabled t → 1400 ≤ out → well_formed addr.kind addr.low addr.high ≡ false → ArrivalSays t addr out d 19
  -- 1: datagram under 18 bytes
  says_1 : Taken t addr out → length d < 18 → ArrivalSays t addr out d 1
  -- 2: type over 6
  says_2 : Taken t addr out → 18 ≤ length d → 6 < get_or d 0 0 % 16 → ArrivalSays t addr out d 2
  -- 9: a request under 1,078 bytes
  says_9 : (kind : PacketType) → Typed t addr out d kind → is_request kind ≡ true → length d < 1078 → ArrivalSays t addr out d 9
  -- 10, 11, 12: version, protocol, expiry wrong; at now's seconds >= expiry
  says_10 : Asking t addr out d → (version_in d ≡ version → ⊥) → ArrivalSays t addr out d 10
  says_11 : Asking t addr out d → version_in d ≡ version → (protocol_in d ≡ t.server.set.protocol_id → ⊥) → ArrivalSays t addr out d 11
  says_12 : Asking t addr out d → version_in d ≡ version → protocol_in d ≡ t.server.set.protocol_id → expiry_in d ≤ t.server.current_time.secs
      → ArrivalSays t addr out d 12
  -- 3: type 1 to 6, address neither connected nor pending
  says_3 : (kind : PacketType) → Typed t addr out d kind → is_request kind ≡ false → sender_in t addr ≡ Unknown → ArrivalSays t addr out d 3
  -- 4: type 1 to 6, L over 8
  says_4 : (kind : PacketType) (table : List ℕ) (n i : ℕ) → Sent t addr out d kind table n i → 8 < count_of d → ArrivalSays t addr out d 4
  -- 5: windowed sequence 2^64-256 or more
  says_5 : (kind : PacketType) (table : List ℕ) (n i : ℕ) → Sent t addr out d kind table n i → count_of d ≤ 8 → windowed kind ≡ true
      → 2 ^ 64 ≤ sequence_of d + width → ArrivalSays t addr out d 5
  -- 6: window refuses
  says_6 : (kind : PacketType) (table : List ℕ) (n i : ℕ) → Sent t addr out d kind table n i → count_of d ≤ 8 → windowed kind ≡ true
      → sequence_of d + width < 2 ^ 64 → refuses width (window_at width table (window_place n i)) (sequence_of d) ≡ true → ArrivalSays t addr out d 6
  -- 7: under 16 bytes after the sequence
  says_7 : (kind : PacketType) (table : List ℕ) (n i : ℕ) → Sent t addr out d kind table n i → count_of d ≤ 8 → Passes table n i kind (sequence_of d)
      → length d < 1 + count_of d + 16 → ArrivalSays t addr out d 7

-- what a refusal leaves: the same state; but a request that is refused by 10, 11 or 12 has set the received time of its sender's pending place
pub data ArrivalLeaves (t : State) (addr : Address) (n : ℕ) (u : State) : Type 0 where
  nothing : u ≡ t → ((j : ℕ) → sender_in t addr ≡ Pending j → (n ≡ 10 → ⊥) × (n ≡ 11 → ⊥) × (n ≡ 12 → ⊥)) → ArrivalLeaves t addr n u
  received : (j : ℕ) → sender_in t addr ≡ Pending j → 10 ≤ n → n ≤ 12
      → u ≡ state t.server t.slots (put_time t.pending (received_at t.server.set.pending j) t.server.current_time) → ArrivalLeaves t addr n u
