-- Every call that changes anything (queries change nothing), with all that it is given, and the state that it leaves: a history is a list of
-- them. The buffers are what the host lends then: held bytes, output, payload, datagram, entries and public addresses may be any.
use Rattle.std.specs.Prelude.{ℕ, Bool, ◌&&◌, List, [], ◌∷◌, length, eqb}
use Rattle.serialize.specs.Choice.{pick}
use Rattle.times.specs.declared.Time.{Time}
use Rattle.addresses.specs.declared.Address.{Address}
use Rattle.bodies.specs.Kinds.{windowed}
use Rattle.server.specs.declared.NetcodeServer.{NetcodeServer}
use Rattle.server.specs.declared.Stage.{Stage}
use Rattle.server.specs.declared.Stage.TheVariants.{Idle, Packet, Token, Challenge, Seal}
use Rattle.turns.specs.Outcomes.{State, state}
use Rattle.upkeep.specs.Clocks.{updated}
use Rattle.upkeep.specs.Limits.{limited}
use Rattle.arrivals.specs.Arrivals.{arrives}
use Rattle.opens.specs.Opens.{open_answer_refusal, opens}
use Rattle.grants.specs.declared.PrivateConnectToken.{PrivateConnectToken}
use Rattle.grants.specs.Grants.{grants}
use Rattle.seals.specs.Seals.{seals}
use Rattle.sending.specs.Packets.{Served, generated}
use Rattle.sending.specs.Clients.{keeping, client_updated, disconnected}
use Rattle.views.specs.Effects.{Told, None, Took, place_of}

-- the host's answers: yes or no to an open, with held bytes, output and datagram; yes with a token and its addresses, or no, with entries,
-- public addresses, held bytes, output and the datagram's length; yes or no to a seal, with held bytes and the output's length
pub data Reply : Type 0 where
  Opens : Bool → List ℕ → List ℕ → List ℕ → Reply
  Grants : Bool → PrivateConnectToken → List ℕ → List ℕ → List ℕ → List ℕ → List ℕ → ℕ → Reply
  Seals : Bool → List ℕ → ℕ → Reply

unfoldable pub replied : State → Reply → State
replied t (Opens granted held out d) = (opens t granted held out d).outcome.state
replied t (Grants given token list entries public held out datagram) = (grants t given token list entries public held out datagram).outcome.state
replied t (Seals granted held out) = (seals t granted held out).state

-- what the host asks for a client (document 01, "How a connection lives"; "When the server says no", for sending): a payload for it, with the
-- payload; its update; that it is sent away. Each with the client's id and the output.
pub data Service : Type 0 where
  Generates : ℕ → List ℕ → List ℕ → Service
  Refreshes : ℕ → List ℕ → Service
  Disconnects : ℕ → List ℕ → Service

-- the id of the client that it is for
unfoldable pub client_of : Service → ℕ
client_of (Generates id payload out) = id
client_of (Refreshes id out) = id
client_of (Disconnects id out) = id

-- what it comes to, with the slots, which are the one table that it is lent: a payload's call leaves them
unfoldable pub serviced : NetcodeServer → List ℕ → Service → Served
serviced s slots (Generates id payload out) = keeping slots (generated s slots id payload out)
serviced s slots (Refreshes id out) = client_updated s slots id out
serviced s slots (Disconnects id out) = disconnected s slots id out

-- the pending places are as they were
abbrev pub served : State → Service → State
served t v = state (serviced t.server t.slots v).turn.server (serviced t.server t.slots v).slots t.pending

-- a datagram from an address, with an output of so many bytes; an answer; a call for a client; the clock's step; a new client limit
pub data Call : Type 0 where
  Arrives : Address → ℕ → List ℕ → Call
  Replies : Reply → Call
  Serves : Service → Call
  Updates : Time → Call
  Limits : ℕ → Call

unfoldable pub next : State → Call → State
next t (Arrives addr out d) = (arrives t addr out d).state
next t (Replies r) = replied t r
next t (Serves v) = served t v
next t (Updates duration) = state (updated t.server t.pending duration).result.server t.slots (updated t.server t.pending duration).pending
next t (Limits limit) = state (limited t.server limit).server t.slots t.pending

-- a history has its last call first
unfoldable pub after : State → List Call → State
after t [] = t
after t (k ∷ h) = next (after t h) k

-- the answers to one call, the last first
unfoldable pub answered : State → List Reply → State
answered t [] = t
answered t (r ∷ rs) = replied (answered t rs) r

-- ---- what a call accepted: a windowed packet's sequence, where a yes to the ask for it was taken

unfoldable pub told_at : Stage → Bool → Told
told_at Idle granted = None
told_at (Packet connected place kind sequence start) granted = pick (granted && windowed kind) (Took (place_of connected place) sequence) None
told_at (Token addr expiry low high) granted = None
told_at (Challenge place start) granted = None
told_at (Seal goal sequence end) granted = None

unfoldable pub told_by : State → Reply → Told
told_by t (Opens granted held out d) = pick (eqb (open_answer_refusal t (length d) (length out)) 0) (told_at t.server.ask.stage granted) None
told_by t (Grants given token list entries public held out datagram) = None
told_by t (Seals granted held out) = None

unfoldable pub told : State → Call → Told
told t (Arrives addr out d) = None
told t (Replies r) = told_by t r
told t (Serves v) = None
told t (Updates duration) = None
told t (Limits limit) = None
