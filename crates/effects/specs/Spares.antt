-- What it means that a slot is spared (document 01, "The window", and the customer's third demand: no datagram alters another pump's slot).
use Rattle.std.specs.Prelude.{ℕ, ◌≤◌, ◌≡◌, Bool, true, false, List}
use Rattle.places.specs.Columns.{Field, Within, field_of}
use Rattle.server.specs.declared.Stage.{Stage}
use Rattle.server.specs.declared.Stage.TheVariants.{Idle, Packet, Token, Challenge, Seal}
use Rattle.server.specs.declared.Goal.{Goal}
use Rattle.server.specs.declared.Goal.TheVariants.{Denied, ChallengeToken, ChallengePacket, Connecting, Sending, Ending}
use Rattle.turns.specs.Outcomes.{State}

-- every word of slot k of n is as in `base`: each field of its mark, id, address and body
abbrev pub Kept : List ℕ → List ℕ → ℕ → ℕ → Type 0
Kept base slots n k = (g : Field) → Within g → field_of slots n k g ≡ field_of base n k g

-- the open ask is not about slot k
abbrev pub GoalSpares : ℕ → Goal → Type 0
GoalSpares k (Denied a) = 0 ≤ 0
GoalSpares k (ChallengeToken a) = 0 ≤ 0
GoalSpares k (ChallengePacket a) = 0 ≤ 0
GoalSpares k (Connecting j i) = i ≡ k → ⊥
GoalSpares k (Sending i) = i ≡ k → ⊥
GoalSpares k (Ending id a) = 0 ≤ 0

abbrev pub PacketSpares : ℕ → Bool → ℕ → Type 0
PacketSpares k true place = place ≡ k → ⊥
PacketSpares k false place = 0 ≤ 0

abbrev pub AskSpares : ℕ → Stage → Type 0
AskSpares k Idle = 0 ≤ 0
AskSpares k (Packet connected place kind sequence start) = PacketSpares k connected place
AskSpares k (Token a expiry low high) = 0 ≤ 0
AskSpares k (Challenge j start) = 0 ≤ 0
AskSpares k (Seal goal sequence end) = GoalSpares k goal

pub record Spares (base : List ℕ) (n k : ℕ) (u : State) : Type 0 where
  pub places : u.server.set.slots ≡ n
  pub kept : Kept base u.slots n k
  pub ask : AskSpares k u.server.ask.stage
