-- Set-up (document 01, "When the server says no": set-up tables, 23: 0 or over 1,024 slots, 0 or over 4,096 pending, 0 or over 2,048 entries, or
-- client limit over slots; then 19, then 20; "How the host answers": set-up empties all places; "What is carried over": the caller supplies
-- the challenge key).
use Rattle.std.specs.Prelude.{ℕ, ◌%◌, false, not, List, length, eqb, ltb, Result, Ok, Err}
use Rattle.serialize.specs.Choice.{pick}
use Rattle.serialize.specs.Runs.{splice, zeros}
use Rattle.times.specs.declared.Time.{Time}
use Rattle.times.specs.Times.{zero, added}
use Rattle.addresses.specs.Addresses as listed
use Rattle.places.specs.Layout.{count, places_refusal}
use Rattle.entries.specs.Layout as entry
use Rattle.server.specs.declared.NetcodeServer.{NetcodeServer}
use Rattle.server.specs.declared.SetUp.{SetUp}
use Rattle.server.specs.State.{server_of, counted, idle}
use Rattle.server.specs.Ready.{before}
use Rattle.upkeep.specs.declared.ServerConfig.{ServerConfig}

-- ---- the record

unfoldable pub connect_key : ServerConfig → List ℕ
connect_key c = pick c.secure c.connect_key (zeros 32)

abbrev pub fixed_as : ServerConfig → ℕ → ℕ → ℕ → ℕ → SetUp
fixed_as c slots pending entries addresses = record {
  protocol_id = c.protocol_id;
  connect_key = connect_key c;
  challenge_key = c.challenge_key;
  secure = c.secure;
  slots = slots;
  pending = pending;
  entries = entries;
  addresses = addresses;
}

-- counters 0, no ask open
abbrev pub begun : SetUp → ℕ → Time → NetcodeServer
begun set limit clock = server_of set limit clock (counted 0 0) idle

-- what set-up found: so many slots, pending places, entries and public addresses
abbrev pub found : ServerConfig → List ℕ → List ℕ → List ℕ → List ℕ → SetUp
found c slots pending entries public = fixed_as c (count slots) (count pending) (entry.count entries) (listed.count public)

-- ---- the refusals

-- 23
unfoldable pub lengths_refusal : ℕ → List ℕ → List ℕ → List ℕ → List ℕ → ℕ
lengths_refusal limit slots pending entries public =
    pick (not (eqb (places_refusal slots 1024) 0)) 23
    (pick (not (eqb (places_refusal pending 4096) 0)) 23
    (pick (not (eqb (entry.entries_refusal entries) 0)) 23
    (pick (not (eqb (length public % 3) 0)) 23
    (pick (ltb (count slots) limit) 23 0))))

-- 23, 19
abbrev pub set_up_refusal : ℕ → List ℕ → List ℕ → List ℕ → List ℕ → ℕ
set_up_refusal limit slots pending entries public = before (lengths_refusal limit slots pending entries public) (listed.list_refusal public)

-- a record of no places, so that every call that is lent a table of connections is 23: it stands where there is none beside a refusal
abbrev pub blank : NetcodeServer
blank = begun
    (record {
      protocol_id = 0;
      connect_key = zeros 32;
      challenge_key = zeros 32;
      secure = false;
      slots = 0;
      pending = 0;
      entries = 0;
      addresses = 0;
    })
    0
    zero

-- in numbers: 0 and the record, or the refusal and a record of no places
abbrev pub refusal_of : Result NetcodeServer ℕ → ℕ
refusal_of (Ok s) = 0
refusal_of (Err n) = n

abbrev pub record_of : Result NetcodeServer ℕ → NetcodeServer
record_of (Ok s) = s
record_of (Err n) = blank

-- ---- the whole

-- what set-up comes to, and what it leaves in the tables
pub record Outcome : Type 0 where
  pub result : Result NetcodeServer ℕ
  pub slots : List ℕ
  pub pending : List ℕ
  pub entries : List ℕ

abbrev pub done : Result NetcodeServer ℕ → List ℕ → List ℕ → List ℕ → Outcome
done result slots pending entries = record { result = result; slots = slots; pending = pending; entries = entries }

-- n marks are 0, and nothing else is written
abbrev pub cleared : List ℕ → ℕ → List ℕ
cleared t n = splice t 0 (zeros n)

-- the start time, its nanoseconds carried, or 20
unfoldable pub by_clock : ServerConfig → List ℕ → List ℕ → List ℕ → List ℕ → Result Time ℕ → Outcome
by_clock c slots pending entries public (Ok clock) =
    done (Ok (begun (found c slots pending entries public) c.max_clients clock))
    (cleared slots (count slots))
    (cleared pending (count pending))
    (cleared entries (entry.count entries))
by_clock c slots pending entries public (Err n) = done (Err n) slots pending entries

unfoldable pub set_up : ServerConfig → List ℕ → List ℕ → List ℕ → List ℕ → Outcome
set_up c slots pending entries public =
    pick (eqb (set_up_refusal c.max_clients slots pending entries public) 0)
    (by_clock c slots pending entries public (added zero c.current_time))
    (done (Err (set_up_refusal c.max_clients slots pending entries public)) slots pending entries)
