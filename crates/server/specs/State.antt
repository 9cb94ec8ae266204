-- The server's own record (document 01, "The window": clock, counters, open ask; "When the server says no", 23: what set-up found of the
-- tables), and the record with one part of it new.
use Rattle.std.specs.Prelude.{ℕ}
use Rattle.times.specs.declared.Time.{Time}
use Rattle.server.specs.declared.NetcodeServer.{NetcodeServer}
use Rattle.server.specs.declared.SetUp.{SetUp}
use Rattle.server.specs.declared.Counters.{Counters}
use Rattle.server.specs.declared.OpenAsk.{OpenAsk}
use Rattle.server.specs.declared.Stage.{Stage}
use Rattle.server.specs.declared.Stage.TheVariants.{Idle}
use Rattle.server.specs.declared.Step.{Step}
use Rattle.server.specs.declared.Answer.{Answer}
use Rattle.server.specs.declared.Answer.TheVariants.{Refused}

abbrev pub server_of : SetUp → ℕ → Time → Counters → OpenAsk → NetcodeServer
server_of set limit clock counters ask = record { set = set; max_clients = limit; current_time = clock; counters = counters; ask = ask }

unfoldable pub with_ask : NetcodeServer → OpenAsk → NetcodeServer
with_ask s ask = server_of s.set s.max_clients s.current_time s.counters ask

unfoldable pub with_clock : NetcodeServer → Time → NetcodeServer
with_clock s clock = server_of s.set s.max_clients clock s.counters s.ask

unfoldable pub with_limit : NetcodeServer → ℕ → NetcodeServer
with_limit s limit = server_of s.set limit s.current_time s.counters s.ask

unfoldable pub with_counters : NetcodeServer → Counters → NetcodeServer
with_counters s counters = server_of s.set s.max_clients s.current_time counters s.ask

-- an ask at a stage, and the lengths of the buffers that were lent
abbrev pub opened : Stage → ℕ → ℕ → OpenAsk
opened stage datagram out = record { stage = stage; datagram = datagram; out = out }

-- no ask is open
abbrev pub idle : OpenAsk
idle = opened Idle 0 0

abbrev pub counted : ℕ → ℕ → Counters
counted global challenge = record { global_sequence = global; challenge_sequence = challenge }

-- what a call comes to
abbrev pub step : NetcodeServer → Answer → Step
step s answer = record { server = s; answer = answer }

-- refused by a number: the record as it was
abbrev pub refused : NetcodeServer → ℕ → Step
refused s n = step s (Refused n)
