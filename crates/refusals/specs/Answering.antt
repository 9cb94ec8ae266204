-- Document 01's table, "When the server says no", for the host's answers: 17, 23, 18; then 8, 9, 13, 15, 24; and what each leaves changed.
use Rattle.std.specs.Prelude.{ℕ, ◌-◌, ◌^◌, ◌≤◌, ◌<◌, ◌≡◌, Bool, true, false, List, length, Some, None}
use Rattle.bodies.specs.declared.PacketType.{PacketType}
use Rattle.bodies.specs.Bodies.{least}
use Rattle.bodies.specs.Tokens.{token_at}
use Rattle.addresses.specs.declared.Address.{Address}
use Rattle.places.specs.Finds.{find_address, find_id, find_free, used_count}
use Rattle.records.specs.Records.{emptied}
use Rattle.entries.specs.Finds.{add_entry}
use Rattle.server.specs.declared.Goal.{Goal}
use Rattle.server.specs.declared.Goal.TheVariants.{Ending}
use Rattle.server.specs.declared.Stage.TheVariants.{Idle, Packet, Token, Challenge, Seal}
use Rattle.server.specs.Ready.{both_refusal, all_refusal, kind_of, misfits}
use Rattle.server.specs.State.{with_ask, idle}
use Rattle.turns.specs.Outcomes.{State, state}
use Rattle.opens.specs.Heard.{accepted}
use Rattle.opens.specs.Responses.{counter_of}
use Rattle.grants.specs.declared.PrivateConnectToken.{PrivateConnectToken}
use Rattle.grants.specs.Tokens.{raised, is_connected, no_place, use_of, dropped}
use Rattle.grants.specs.Grants.{list_unfit, foreign}

-- ---- any answer: an ask is open, the tables are set-up's

pub record Open (t : State) : Type 0 where
  pub open_ask : t.server.ask.stage ≡ Idle → ⊥

-- of the kind that is answered, with buffers as long as at the ask, and places, parts and a counter that there are
pub record Fit (t : State) (kind datagram out : ℕ) : Type 0 where
  pub wanted : kind_of t.server.ask.stage ≡ kind
  pub datagram_same : datagram ≡ t.server.ask.datagram
  pub out_same : out ≡ t.server.ask.out
  pub fits : misfits t.server.ask.stage t.server.set.slots t.server.set.pending datagram out ≡ false

-- the state with the ask closed
abbrev pub shut : State → State
shut t = state (with_ask t.server idle) t.slots t.pending

-- ---- to an ask to open a packet or a challenge

-- the datagram's call was lent an output of 1,400 bytes
pub record OpenFit (t : State) (kind tables datagram out : ℕ) : Type 0 where
  pub open_ask : Open t
  pub tables_same : tables ≡ 0
  pub fit : Fit t kind datagram out
  pub room : 1400 ≤ out

abbrev pub both_of : State → ℕ
both_of t = both_refusal t.server.set (length t.slots) (length t.pending)

-- 15 after a response: the record's own counter, or the global one for a denied, is 2^64-1
pub data ResponseSpent (t : State) (j : ℕ) : Type 0 where
  own : (i : ℕ) → find_free t.slots t.server.set.slots ≡ Some i → counter_of t.server (emptied t.pending j) j ≡ 2 ^ 64 - 1 → ResponseSpent t j
  global : find_free t.slots t.server.set.slots ≡ None → t.server.counters.global_sequence ≡ 2 ^ 64 - 1 → ResponseSpent t j

pub data OpenSays (t : State) (granted : Bool) (out d : List ℕ) : ℕ → Type 0 where
  opens_17 : t.server.ask.stage ≡ Idle → OpenSays t granted out d 17
  opens_23 : Open t → (both_of t ≡ 0 → ⊥) → OpenSays t granted out d 23
  opens_18 : Open t → both_of t ≡ 0 → (OpenFit t 1 (both_of t) (length d) (length out) → ⊥) → OpenSays t granted out d 18
  opens_8 : OpenFit t 1 (both_of t) (length d) (length out) → granted ≡ false → OpenSays t granted out d 8
  opens_9 : OpenFit t 1 (both_of t) (length d) (length out) → granted ≡ true → (connected : Bool) (place : ℕ) (kind : PacketType) (sequence start : ℕ)
      → t.server.ask.stage ≡ Packet connected place kind sequence start → length d - 16 - start < least kind → OpenSays t granted out d 9
  opens_15 : OpenFit t 1 (both_of t) (length d) (length out) → granted ≡ true → (j start : ℕ) → t.server.ask.stage ≡ Challenge j start
      → find_id t.slots t.server.set.slots (token_at d start).client_id ≡ None → ResponseSpent t j → OpenSays t granted out d 15

-- what each leaves: 17, 23 and 18 the same state, and so an open ask stays open; 8 the ask closed; 9 the window advanced besides, if the type
-- is windowed; 15 the pending place emptied besides
pub data OpenLeaves (t : State) : ℕ → State → Type 0 where
  nothing : (n : ℕ) → 17 ≤ n → n ≤ 23 → OpenLeaves t n t
  closed_8 : OpenLeaves t 8 (shut t)
  slot_9 : (i : ℕ) (kind : PacketType) (sequence start : ℕ) → t.server.ask.stage ≡ Packet true i kind sequence start
      → OpenLeaves t 9 (state (with_ask t.server idle) (accepted t.slots t.server.set.slots i kind sequence) t.pending)
  pending_9 : (j : ℕ) (kind : PacketType) (sequence start : ℕ) → t.server.ask.stage ≡ Packet false j kind sequence start
      → OpenLeaves t 9 (state (with_ask t.server idle) t.slots (accepted t.pending t.server.set.pending j kind sequence))
  emptied_15 : (j start : ℕ) → t.server.ask.stage ≡ Challenge j start → OpenLeaves t 15 (state (with_ask t.server idle) t.slots (emptied t.pending j))

-- ---- to an ask to open a private token

abbrev pub all_of : State → List ℕ → List ℕ → ℕ
all_of t entries public = all_refusal t.server.set (length t.slots) (length t.pending) (length entries) (length public)

-- a yes whose token is for this server, from a sender that may be answered, and whose entry is its own
pub record Admits (t : State) (entries : List ℕ) (p : PrivateConnectToken) (addr : Address) (low high : ℕ) : Type 0 where
  pub free : is_connected t.server t.slots addr p.client_id ≡ false
  pub place : no_place t.server t.pending addr ≡ false
  pub entry : (add_entry entries t.server.set.entries (use_of t.server.current_time addr low high)).answer ≡ true

-- 15: the global counter for a denied; the challenge counter; the global counter for a challenge
pub data GrantSpent (t : State) : Type 0 where
  full : t.server.max_clients ≤ used_count t.slots t.server.set.slots → t.server.counters.global_sequence ≡ 2 ^ 64 - 1 → GrantSpent t
  challenge : used_count t.slots t.server.set.slots < t.server.max_clients → t.server.counters.challenge_sequence ≡ 2 ^ 64 - 1 → GrantSpent t
  global : used_count t.slots t.server.set.slots < t.server.max_clients → (t.server.counters.challenge_sequence ≡ 2 ^ 64 - 1 → ⊥)
      → t.server.counters.global_sequence ≡ 2 ^ 64 - 1 → GrantSpent t

pub data GrantSays (t : State) (given : Bool) (p : PrivateConnectToken) (list entries public out : List ℕ) (datagram : ℕ) : ℕ → Type 0 where
  grants_17 : t.server.ask.stage ≡ Idle → GrantSays t given p list entries public out datagram 17
  grants_23 : Open t → (all_of t entries public ≡ 0 → ⊥) → GrantSays t given p list entries public out datagram 23
  grants_18 : Open t → all_of t entries public ≡ 0 → (OpenFit t 2 (all_of t entries public) datagram (length out) → ⊥) → GrantSays t given p list entries public out datagram 18
  -- field range: no list of 0 to 32 well-formed addresses
  grants_18_fields : OpenFit t 2 (all_of t entries public) datagram (length out) → given ≡ true → list_unfit list ≡ true → GrantSays t given p list entries public out datagram 18
  grants_8 : OpenFit t 2 (all_of t entries public) datagram (length out) → given ≡ false → GrantSays t given p list entries public out datagram 8
  -- 13: secure, and no token address is ours
  grants_13 : OpenFit t 2 (all_of t entries public) datagram (length out) → given ≡ true → list_unfit list ≡ false → foreign t.server.set list public ≡ true
      → GrantSays t given p list entries public out datagram 13
  grants_15 : OpenFit t 2 (all_of t entries public) datagram (length out) → given ≡ true → list_unfit list ≡ false → foreign t.server.set list public ≡ false
      → (addr : Address) (expiry low high : ℕ) → t.server.ask.stage ≡ Token addr expiry low high → Admits t entries p addr low high → GrantSpent t
      → GrantSays t given p list entries public out datagram 15

-- what each leaves of the state: 8 and 13 the ask closed; 15 the steps before it: a denied's dropped the pending place, a challenge's global
-- test comes after the challenge counter was raised
pub data GrantLeaves (t : State) : ℕ → State → Type 0 where
  nothing : (n : ℕ) → 17 ≤ n → n ≤ 23 → GrantLeaves t n t
  closed_8 : GrantLeaves t 8 (shut t)
  closed_13 : GrantLeaves t 13 (shut t)
  dropped_15 : (addr : Address) (expiry low high : ℕ) → t.server.ask.stage ≡ Token addr expiry low high
      → t.server.max_clients ≤ used_count t.slots t.server.set.slots
      → GrantLeaves t 15 (state (with_ask t.server idle) t.slots (dropped t.pending (find_address t.pending t.server.set.pending addr)))
  challenge_15 : used_count t.slots t.server.set.slots < t.server.max_clients → t.server.counters.challenge_sequence ≡ 2 ^ 64 - 1 → GrantLeaves t 15 (shut t)
  raised_15 : used_count t.slots t.server.set.slots < t.server.max_clients → (t.server.counters.challenge_sequence ≡ 2 ^ 64 - 1 → ⊥)
      → GrantLeaves t 15 (state (with_ask (raised t.server) idle) t.slots t.pending)

-- ---- to an ask to seal

pub data SealSays (t : State) (granted : Bool) (out : ℕ) : ℕ → Type 0 where
  seals_17 : t.server.ask.stage ≡ Idle → SealSays t granted out 17
  seals_23 : Open t → (both_of t ≡ 0 → ⊥) → SealSays t granted out 23
  seals_18 : Open t → both_of t ≡ 0 → (Fit t 3 t.server.ask.datagram out → ⊥) → SealSays t granted out 18
  -- 24: host says no to seal. A slot that was being ended is reported as ended, with 24 as the reason that no packet comes.
  seals_24 : Open t → both_of t ≡ 0 → Fit t 3 t.server.ask.datagram out → granted ≡ false → (goal : Goal) (sequence end : ℕ) → t.server.ask.stage ≡ Seal goal sequence end
      → ((id : ℕ) (addr : Address) → goal ≡ Ending id addr → ⊥) → SealSays t granted out 24

-- what each leaves: 17, 23 and 18 the same state; 24 the ask closed, the earlier steps stay
pub data SealLeaves (t : State) : ℕ → State → Type 0 where
  nothing : (n : ℕ) → 17 ≤ n → n ≤ 23 → SealLeaves t n t
  closed_24 : SealLeaves t 24 (shut t)
