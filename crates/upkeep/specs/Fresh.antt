-- What a server that begins has (document 01, "How the host answers": set-up empties all places; "What every promise pins down"), and why
-- set-up refuses.
use Rattle.std.specs.Prelude.{ℕ, ◌≤◌, ◌<◌, ◌≡◌, false, List, length, get_or, Err}
use Rattle.times.specs.Times.{second, zero, whole, added}
use Rattle.addresses.specs.Addresses as listed
use Rattle.places.specs.Finds.{used_count}
use Rattle.places.specs.Columns.{Field}
use Rattle.places.specs.Keys.{Distinct}
use Rattle.entries.specs.Layout.{match_at}
use Rattle.server.specs.declared.NetcodeServer.{NetcodeServer}
use Rattle.server.specs.declared.Stage.TheVariants.{Idle}
use Rattle.server.specs.State.{counted}
use Rattle.server.specs.Ready.{slots_refusal, pending_refusal, entries_refusal, list_refusal}
use Rattle.upkeep.specs.declared.ServerConfig.{ServerConfig}
use Rattle.upkeep.specs.SetUps.{connect_key, blank, lengths_refusal, refusal_of, record_of, Outcome}

-- the record s and the tables, as set-up by c left them
pub record Fresh (c : ServerConfig) (s : NetcodeServer) (slots pending entries public : List ℕ) : Type 0 where
  -- nobody is connected or waits, and no token is remembered
  pub connected : used_count slots s.set.slots ≡ 0
  pub waiting : used_count pending s.set.pending ≡ 0
  pub remembered : (i : ℕ) → i < s.set.entries → get_or entries i 0 ≡ 0
  pub unmatched : (mac : List ℕ) (i : ℕ) → i < s.set.entries → match_at entries s.set.entries mac i ≡ false
  -- no two used places have one address, or one id
  pub apart_slots : (key : Field) → Distinct key slots s.set.slots
  pub apart_pending : (key : Field) → Distinct key pending s.set.pending
  -- no call refuses these tables
  pub slots_taken : slots_refusal s.set (length slots) ≡ 0
  pub pending_taken : pending_refusal s.set (length pending) ≡ 0
  pub entries_taken : entries_refusal s.set (length entries) ≡ 0
  pub list_taken : list_refusal s.set (length public) ≡ 0
  -- no ask is open, and nothing was sent
  pub idle : s.ask.stage ≡ Idle
  pub unsent : s.counters ≡ counted 0 0
  -- the clock shows the start time, its nanoseconds carried
  pub exact : whole s.current_time ≡ whole c.current_time
  pub small : s.current_time.nanos < second
  -- what the caller asked for
  pub limit : s.max_clients ≡ c.max_clients
  pub within : s.max_clients ≤ s.set.slots
  pub protocol : s.set.protocol_id ≡ c.protocol_id
  pub connect_keyed : s.set.connect_key ≡ connect_key c
  pub challenge_keyed : s.set.challenge_key ≡ c.challenge_key

-- why set-up refuses by a number: the first test that fails says so
pub data Why (c : ServerConfig) (slots pending entries public : List ℕ) : ℕ → Type 0 where
  Lengths : lengths_refusal c.max_clients slots pending entries public ≡ 23 → Why c slots pending entries public 23
  Malformed : lengths_refusal c.max_clients slots pending entries public ≡ 0 → listed.list_refusal public ≡ 19
      → Why c slots pending entries public 19
  Range : lengths_refusal c.max_clients slots pending entries public ≡ 0 → listed.list_refusal public ≡ 0
      → added zero c.current_time ≡ Err 20 → Why c slots pending entries public 20

-- what a set-up that refuses leaves: the tables as they were, and a record of no places
pub record Unstarted (c : ServerConfig) (slots pending entries public : List ℕ) (o : Outcome) : Type 0 where
  pub same_slots : o.slots ≡ slots
  pub same_pending : o.pending ≡ pending
  pub same_entries : o.entries ≡ entries
  pub placeless : record_of o.result ≡ blank
  pub why : Why c slots pending entries public (refusal_of o.result)
