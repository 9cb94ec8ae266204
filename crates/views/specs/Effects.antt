-- What a call may do to the records: the law of effect that demand 3 stands on. Places that it does not name are as they were.
use Rattle.std.specs.Prelude.{ℕ, ◌≤◌, ◌≡◌, Bool, true, false}
use Rattle.serialize.specs.Choice.{pick}
use Rattle.replay_protection.specs.Replay.{refusal, fresh}
use Rattle.replay_protection.specs.Ours.{width}
use Rattle.bodies.specs.declared.PacketType.{PacketType}
use Rattle.bodies.specs.Kinds.{windowed}
use Rattle.addresses.specs.declared.Address.{Address}
use Rattle.addresses.specs.Addresses.{words_of}
use Rattle.server.specs.declared.Stage.{Stage}
use Rattle.server.specs.declared.Stage.TheVariants.{Idle, Packet, Token, Challenge, Seal}
use Rattle.server.specs.declared.Goal.{Goal}
use Rattle.server.specs.declared.Goal.TheVariants.{Denied, ChallengeToken, ChallengePacket, Connecting, Sending, Ending}
use Rattle.turns.specs.Outcomes.{State}
use Rattle.views.specs.Views.{Place, Slot, Pend, View, advanced, seen, inside}

-- what a call accepted: nothing, or a sequence at a place
pub data Told : Type 0 where
  None : Told
  Took : Place → ℕ → Told

-- a record stays as it is, or its place is empty
pub data Stays (x y : View) : Type 0 where
  as_is : y ≡ x → Stays x y
  ended : y.used ≡ false → Stays x y

abbrev pub Others : (Place → View) → (Place → View) → Place → Type 0
Others f g p = (q : Place) → (p ≡ q → ⊥) → g q ≡ f q

-- what a call that was told `e` makes of the records: f before, g after
pub data Effect (ins : Place → Bool) (f : Place → View) (e : Told) (g : Place → View) : Type 0 where
  -- nothing is accepted; records stay or end
  kept : e ≡ None → ((q : Place) → Stays (f q) (g q)) → Effect ins f e g
  -- the record at p accepts a sequence that its window does not refuse: its window advances, and it stays or ends
  took : (p : Place) (sequence : ℕ) → e ≡ Took p sequence → (f p).used ≡ true → refusal width (f p).win sequence ≡ 0
      → Stays (advanced (f p) sequence) (g p) → Others f g p → Effect ins f e g
  -- a record is made at an empty pending place, with a fresh window and an address that no record has
  made : (j : ℕ) → e ≡ None → ins (Pend j) ≡ true → (f (Pend j)).used ≡ false → (g (Pend j)).used ≡ true → (g (Pend j)).win ≡ fresh width
      → ((q : Place) → (f q).used ≡ true → (f q).addr ≡ (g (Pend j)).addr → ⊥) → Others f g (Pend j) → Effect ins f e g
  -- a record goes whole from a pending place to an empty slot
  moved : (j i : ℕ) → e ≡ None → ins (Slot i) ≡ true → (f (Pend j)).used ≡ true → (f (Slot i)).used ≡ false → (g (Pend j)).used ≡ false
      → g (Slot i) ≡ f (Pend j) → ((q : Place) → (Pend j ≡ q → ⊥) → (Slot i ≡ q → ⊥) → g q ≡ f q) → Effect ins f e g

-- ---- what an open ask says of the records

unfoldable pub place_of : Bool → ℕ → Place
place_of connected place = pick connected (Slot place) (Pend place)

-- it is for a record in use; a windowed packet has passed the window's test
pub record PacketFits (f : Place → View) (p : Place) (kind : PacketType) (sequence : ℕ) : Type 0 where
  pub used : (f p).used ≡ true
  pub passes : windowed kind ≡ true → refusal width (f p).win sequence ≡ 0

-- no slot has the address
abbrev pub Unconnected : (Place → View) → Address → Type 0
Unconnected f a = (i : ℕ) → (f (Slot i)).used ≡ true → (f (Slot i)).addr ≡ words_of a → ⊥

pub record ConnectFits (ins : Place → Bool) (f : Place → View) (j i : ℕ) : Type 0 where
  pub from : (f (Pend j)).used ≡ true
  pub in_pending : ins (Pend j) ≡ true
  pub to : (f (Slot i)).used ≡ false
  pub in_slots : ins (Slot i) ≡ true

abbrev pub GoalFits : (Place → Bool) → (Place → View) → Goal → Type 0
GoalFits ins f (Denied a) = 0 ≤ 0
GoalFits ins f (ChallengeToken a) = Unconnected f a
GoalFits ins f (ChallengePacket a) = Unconnected f a
GoalFits ins f (Connecting j i) = ConnectFits ins f j i
GoalFits ins f (Sending i) = 0 ≤ 0
GoalFits ins f (Ending id a) = 0 ≤ 0

abbrev pub AskFits : (Place → Bool) → (Place → View) → Stage → Type 0
AskFits ins f Idle = 0 ≤ 0
AskFits ins f (Packet connected place kind sequence start) = PacketFits f (place_of connected place) kind sequence
AskFits ins f (Token a expiry low high) = 0 ≤ 0
AskFits ins f (Challenge j start) = (f (Pend j)).used ≡ true
AskFits ins f (Seal goal sequence end) = GoalFits ins f goal

-- ---- the invariant of a state, and what a call does to it

-- used records have different addresses, in both tables together, and stand at places that there are
pub record Apart (ins : Place → Bool) (f : Place → View) : Type 0 where
  pub within : (p : Place) → (f p).used ≡ true → ins p ≡ true
  pub distinct : (p q : Place) → (f p).used ≡ true → (f q).used ≡ true → (f p).addr ≡ (f q).addr → p ≡ q

pub record Good (t : State) : Type 0 where
  pub apart : Apart (inside t) (seen t)
  pub ask : AskFits (inside t) (seen t) t.server.ask.stage

pub record Does (t : State) (e : Told) (u : State) : Type 0 where
  pub places : (p : Place) → inside u p ≡ inside t p
  pub effect : Effect (inside t) (seen t) e (seen u)
  pub ask : AskFits (inside u) (seen u) u.server.ask.stage
