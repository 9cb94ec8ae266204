-- What a call about a datagram comes to (document 01, "How the host answers": a call that needs the cipher ends in an ask; one ask may be
-- open; "When the server says no": a refusal changes nothing but what its line says).
use Rattle.std.specs.Prelude.{ℕ, ◌+◌, List, ltb, Result, Ok, Err}
use Rattle.serialize.specs.Choice.{pick}
use Rattle.server.specs.declared.NetcodeServer.{NetcodeServer}
use Rattle.server.specs.declared.Stage.{Stage}
use Rattle.server.specs.declared.Ask as host
use Rattle.server.specs.declared.Answer.{Answer}
use Rattle.server.specs.declared.Answer.TheVariants.{Refused, Ask}
use Rattle.server.specs.State.{with_ask, with_counters, counted, opened, idle}
use Rattle.server.specs.Asking.{no_ask}
use Rattle.server.specs.Ready.{answer_refusal, answer_verdict, before, next_to}
use Rattle.turns.specs.declared.Turn.{Turn}

-- ---- the record as a call leaves it, its answer, and what the host is asked for

abbrev pub turn : NetcodeServer → Answer → host.Ask → Turn
turn s answer ask = record { server = s; answer = answer; ask = ask }

-- nothing is asked for, and the record is as it was
abbrev pub answered : NetcodeServer → Answer → Turn
answered s answer = turn s answer no_ask

-- refused by a number before anything is done
abbrev pub refused : NetcodeServer → ℕ → Turn
refused s n = answered s (Refused n)

-- the call is over: no ask is open
abbrev pub closed : NetcodeServer → Answer → Turn
closed s answer = answered (with_ask s idle) answer

-- the call goes on at this stage once the host has answered; so long were datagram and output
abbrev pub asking : NetcodeServer → Stage → ℕ → ℕ → host.Ask → Turn
asking s stage datagram out ask = turn (with_ask s (opened stage datagram out)) Ask ask

-- the record with the global counter past the sequence that was used
abbrev pub spent : NetcodeServer → ℕ → NetcodeServer
spent s sequence = with_counters s (counted (sequence + 1) s.counters.challenge_sequence)

-- ---- what a call acts on, and what it comes to

-- the record and the two tables of connections
pub record State : Type 0 where
  pub server : NetcodeServer
  pub slots : List ℕ
  pub pending : List ℕ

abbrev pub state : NetcodeServer → List ℕ → List ℕ → State
state s slots pending = record { server = s; slots = slots; pending = pending }

pub record Outcome : Type 0 where
  pub answer : Answer
  pub ask : host.Ask
  pub state : State

abbrev pub outcome : Answer → host.Ask → State → Outcome
outcome answer ask t = record { answer = answer; ask = ask; state = t }

-- a turn, with the tables that the call left
abbrev pub came : Turn → List ℕ → List ℕ → Outcome
came r slots pending = outcome r.answer r.ask (state r.server slots pending)

-- a turn that left the tables as they were
abbrev pub leaves : State → Turn → Outcome
leaves t r = came r t.slots t.pending

-- refused by a number: the same state
abbrev pub refuses : State → ℕ → Outcome
refuses t n = outcome (Refused n) no_ask t

-- a turn, with the one table that its function is lent
pub record Half : Type 0 where
  pub turn : Turn
  pub table : List ℕ

abbrev pub half : Turn → List ℕ → Half
half r table = record { turn = r; table = table }

-- the slots are that table, and the pending places are as they were; or the other way round
abbrev pub from_slot : State → Half → Outcome
from_slot t h = came h.turn h.table t.pending

abbrev pub from_pending : State → Half → Outcome
from_pending t h = came h.turn t.slots h.table

-- the outcome of a call that is lent held bytes and output too
pub record Written : Type 0 where
  pub outcome : Outcome
  pub held : List ℕ
  pub out : List ℕ

abbrev pub written : Outcome → List ℕ → List ℕ → Written
written o held out = record { outcome = o; held = held; out = out }

-- ---- the answer to an ask to open: 17, 23, 18. An output under 1,400 bytes is none that a datagram's call was lent.

unfoldable pub open_refusal : NetcodeServer → ℕ → ℕ → ℕ → ℕ → ℕ
open_refusal s tables kind datagram out = before (answer_refusal s.ask tables kind s.set datagram out) (pick (ltb out 1400) 18 0)

-- the same of what the tables' test came to
unfoldable pub open_verdict : NetcodeServer → Result (Unit {0}) ℕ → ℕ → ℕ → ℕ → Result (Unit {0}) ℕ
open_verdict s tables kind datagram out = next_to (answer_verdict s.ask tables kind s.set datagram out) (pick (ltb out 1400) (Err 18) (Ok tt))
