-- What each call answers and leaves: that of the server's function of its name, with the record that the words are, told on the desk.
use Rattle.std.specs.Prelude.{ℕ, ◌*◌, Bool, not, List, [], ◌∷◌, eqb, ltb}
use Rattle.serialize.specs.Choice.{pick}
use Rattle.times.specs.declared.Time.{Time}
use Rattle.server.specs.declared.Step.{Step}
use Rattle.server.specs.Asking.{no_ask}
use Rattle.upkeep.specs.declared.ServerConfig.{ServerConfig}
use Rattle.upkeep.specs.SetUps as begin
use Rattle.upkeep.specs.Clocks as clocks
use Rattle.queries.specs.Replies as replies
use Rattle.queries.specs.Queries as queries
use Rattle.turns.specs.declared.Turn.{Turn}
use Rattle.turns.specs.Outcomes as turns
use Rattle.turns.specs.Packets as packets
use Rattle.grants.specs.declared.PrivateConnectToken.{PrivateConnectToken}
use Rattle.grants.specs.Grants as grants
use Rattle.sending.specs.Packets as sending
use Rattle.netcode.specs.Laid.{record_in, record_words, whole_words}
use Rattle.netcode.specs.Told.{answer_words, Desk, told_on}

-- a byte as yes or no
abbrev pub yes? : ℕ → Bool
yes? b = not (eqb b 0)

-- ---- lengths: for more places than there can be, none

unfoldable pub size_of : ℕ → ℕ → ℕ → ℕ
size_of count most each = pick (ltb most count) 0 (count * each)

-- ---- set-up

abbrev pub config_of : Time → ℕ → ℕ → Bool → List ℕ → List ℕ → ServerConfig
config_of clock limit protocol secure connect_key challengeKey = record {
  current_time = clock;
  max_clients = limit;
  protocol_id = protocol;
  secure = secure;
  connect_key = connect_key;
  challenge_key = challengeKey;
}

pub record Started : Type 0 where
  pub number : ℕ
  pub words : List ℕ
  pub slots : List ℕ
  pub pending : List ℕ
  pub entries : List ℕ

abbrev pub started : ℕ → List ℕ → List ℕ → List ℕ → List ℕ → Started
started number words slots pending entries = record { number = number; words = words; slots = slots; pending = pending; entries = entries }

-- 0 and the record; or the refusal and a record of no places
abbrev pub started_as : List ℕ → begin.Outcome → Started
started_as w o = started (begin.refusal_of o.result) (whole_words w (begin.record_of o.result)) o.slots o.pending o.entries

-- ---- a call that never asks

pub record Stepped : Type 0 where
  pub words : List ℕ
  pub answer : List ℕ
  pub pending : List ℕ

abbrev pub stepped : List ℕ → List ℕ → List ℕ → Stepped
stepped words answer pending = record { words = words; answer = answer; pending = pending }

abbrev pub stepped_as : List ℕ → List ℕ → Step → List ℕ → Stepped
stepped_as w a s pending = stepped (record_words w s.server) (answer_words a s.answer no_ask) pending

abbrev pub updated_as : List ℕ → List ℕ → clocks.Outcome → Stepped
updated_as w a o = stepped_as w a o.result o.pending

-- ---- a call that may ask

abbrev pub turn_on : Desk → Turn → Desk
turn_on d r = told_on d r.server r.answer r.ask

-- with the two tables of connections
pub record Moved : Type 0 where
  pub desk : Desk
  pub slots : List ℕ
  pub pending : List ℕ

abbrev pub moved : Desk → List ℕ → List ℕ → Moved
moved d slots pending = record { desk = d; slots = slots; pending = pending }

abbrev pub moved_as : Desk → turns.Outcome → Moved
moved_as d o = moved (told_on d o.state.server o.answer o.ask) o.state.slots o.state.pending

-- and held bytes and output
pub record Wrote : Type 0 where
  pub moved : Moved
  pub held : List ℕ
  pub out : List ℕ

abbrev pub wrote : Moved → List ℕ → List ℕ → Wrote
wrote m held out = record { moved = m; held = held; out = out }

abbrev pub wrote_as : Desk → turns.Written → Wrote
wrote_as d x = wrote (moved_as d x.outcome) x.held x.out

-- and token entries
pub record Booked : Type 0 where
  pub wrote : Wrote
  pub entries : List ℕ

abbrev pub booked : Wrote → List ℕ → Booked
booked x entries = record { wrote = x; entries = entries }

abbrev pub booked_as : Desk → grants.Granted → Booked
booked_as d x = booked (wrote (moved_as d x.outcome) x.held x.out) x.entries

abbrev pub token_of : ℕ → ℕ → List ℕ → List ℕ → List ℕ → PrivateConnectToken
token_of id timeout send_key receive_key user_data = record {
  client_id = id;
  timeout_seconds = timeout;
  server_to_client_key = send_key;
  client_to_server_key = receive_key;
  user_data = user_data;
}

-- with the output, and with slots and output
pub record Spoke : Type 0 where
  pub desk : Desk
  pub out : List ℕ

abbrev pub spoke : Desk → List ℕ → Spoke
spoke d out = record { desk = d; out = out }

abbrev pub spoke_as : Desk → packets.Spoken → Spoke
spoke_as d x = spoke (turn_on d x.turn) x.out

pub record Attended : Type 0 where
  pub desk : Desk
  pub slots : List ℕ
  pub out : List ℕ

abbrev pub attended : Desk → List ℕ → List ℕ → Attended
attended d slots out = record { desk = d; slots = slots; out = out }

abbrev pub attended_as : Desk → sending.Served → Attended
attended_as d x = attended (turn_on d x.turn) x.slots x.out

-- ---- queries

abbrev pub itself : List ℕ → List ℕ
itself words = (record_in words).max_clients ∷ (record_in words).current_time.secs ∷ (record_in words).current_time.nanos ∷ []

pub record Replied : Type 0 where
  pub reply : List ℕ
  pub left : List ℕ

abbrev pub replied : List ℕ → List ℕ → Replied
replied reply left = record { reply = reply; left = left }

abbrev pub replied_as : queries.Outcome → Replied
replied_as o = replied (replies.words_of o.reply) o.left
