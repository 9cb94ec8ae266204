-- Times (document 01, "How the host answers": a time is seconds and nanoseconds; a time counts as its whole nanoseconds, and a stored
-- one later than now is zero away; the clock keeps nanoseconds below 10^9). Of any two words.
use Rattle.std.specs.Prelude.{ℕ, ◌+◌, ◌*◌, ◌-◌, ◌/◌, ◌%◌, ◌^◌, min, Bool, ltb, leb, Result, Ok, Err}
use Rattle.serialize.specs.Choice.{pick}
use Rattle.times.specs.declared.Time.{Time}

-- nanoseconds in a second
abbrev pub second : ℕ
second = 1000000000

abbrev pub time : ℕ → ℕ → Time
time secs nanos = record { secs = secs; nanos = nanos }

abbrev pub zero : Time
zero = time 0 0

-- the whole nanoseconds
abbrev pub whole : Time → ℕ
whole t = t.secs * second + t.nanos

-- a clock at w nanoseconds: nanoseconds below 10^9
abbrev pub clock : ℕ → Time
clock w = time (w / second) (w % second)

-- the clock moved on by a step; 20 where its seconds would pass 64 bits
unfoldable pub added : Time → Time → Result Time ℕ
added t step = pick (leb (2 ^ 64 * second) (whole t + whole step)) (Err 20) (Ok (clock (whole t + whole step)))

-- a < b
abbrev pub before : Time → Time → Bool
before a b = ltb (whole a) (whole b)

-- "received + timeout < now", the timeout in seconds
abbrev pub past : Time → ℕ → Time → Bool
past a secs b = ltb (whole a + secs * second) (whole b)

-- "sent + 250 ms <= now"
abbrev pub due : Time → Time → Bool
due a b = leb (whole a + 250000000) (whole b)

-- secs seconds and nanos nanoseconds, in as many seconds as a word holds
unfoldable pub settled : ℕ → ℕ → Time
settled secs nanos = time (min secs (2 ^ 64 - 1)) (nanos + (secs - min secs (2 ^ 64 - 1)) * second)

-- how long ago then was, zero where it is later: whole seconds, and nanoseconds below 10^9 unless the seconds pass 64 bits, which
-- takes a clock that no call has left
abbrev pub since : Time → Time → Time
since t then = settled ((whole t - whole then) / second) ((whole t - whole then) % second)

-- the second that a difference of nanoseconds borrows
unfoldable pub borrowed : ℕ → ℕ → ℕ
borrowed nanos less = pick (ltb nanos less) 1 0
