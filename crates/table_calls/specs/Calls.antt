-- What each call answers and leaves: document 01's numbers for its refusals, 23 before 19, and nothing written then.
use Rattle.std.specs.Prelude.{ℕ, Bool, not, List, [], ◌∷◌, eqb, Option, Some, None, Result, Ok, Err}
use Rattle.serialize.specs.Choice.{pick}
use Rattle.times.specs.declared.Time.{Time}
use Rattle.times.specs.Times.{time, added, since}
use Rattle.addresses.specs.declared.Address.{Address}
use Rattle.addresses.specs.Addresses.{of_bytes, words_of, refusal, list_refusal, any_ours}
use Rattle.places.specs.Layout.{count, places_refusal}
use Rattle.places.specs.Finds.{find_address, find_id, find_free, used_count}
use Rattle.entries.specs.declared.ConnectTokenEntry.{ConnectTokenEntry}
use Rattle.entries.specs.Layout as entry
use Rattle.entries.specs.Finds.{Outcome, add_entry}

-- a call's number, and what it leaves in the list that it was lent
pub record Told : Type 0 where
  pub number : ℕ
  pub left : List ℕ

abbrev pub told : ℕ → List ℕ → Told
told number left = record { number = number; left = left }

-- 1 for yes, 0 for no
unfoldable pub bit_of : Bool → ℕ
bit_of b = pick b 1 0

-- ---- times

unfoldable pub clock_laid : Result Time ℕ → List ℕ → Told
clock_laid (Ok t) out = told 0 (t.secs ∷ t.nanos ∷ [])
clock_laid (Err refusal) out = told refusal out

abbrev pub time_add : Time → Time → List ℕ → Told
time_add t step out = clock_laid (added t step) out

abbrev pub since_words : Time → Time → List ℕ
since_words t then = (since t then).secs ∷ (since t then).nanos ∷ []

-- ---- addresses

unfoldable pub address_call : ℕ → List ℕ → ℕ → List ℕ → Told
address_call kind bytes port out =
    pick (not (eqb (refusal (of_bytes kind bytes port)) 0)) (told 19 out) (told 0 (words_of (of_bytes kind bytes port)))

unfoldable pub ours_call : List ℕ → List ℕ → ℕ
ours_call list ours =
    pick (not (eqb (list_refusal ours) 0)) 19 (pick (not (eqb (list_refusal list) 0)) 19 (bit_of (any_ours list ours)))

-- ---- searches

unfoldable pub found_as : Option ℕ → List ℕ → Told
found_as (Some i) place = told 1 (i ∷ [])
found_as None place = told 0 place

-- a table that is no table, or what follows
abbrev pub shaped : List ℕ → List ℕ → Told → Told
shaped t out next = pick (not (eqb (places_refusal t 4096) 0)) (told 23 out) next

unfoldable pub find_address_call : List ℕ → ℕ → List ℕ → ℕ → List ℕ → Told
find_address_call t kind bytes port place =
    shaped t place (pick (not (eqb (refusal (of_bytes kind bytes port)) 0)) (told 19 place) (found_as (find_address t (count t) (of_bytes kind bytes port)) place))

unfoldable pub find_id_call : List ℕ → ℕ → List ℕ → Told
find_id_call t id place = shaped t place (found_as (find_id t (count t) id) place)

unfoldable pub find_free_call : List ℕ → List ℕ → Told
find_free_call t place = shaped t place (found_as (find_free t (count t)) place)

unfoldable pub count_call : List ℕ → List ℕ → Told
count_call t out = shaped t out (told 1 (used_count t (count t) ∷ []))

-- ---- token entries

abbrev pub entry_of : ℕ → ℕ → Address → List ℕ → ConnectTokenEntry
entry_of secs nanos a mac = record { time = time secs nanos; address = a; mac = mac }

abbrev pub outcome_told : Outcome → Told
outcome_told o = told (bit_of o.answer) o.entries

unfoldable pub entry_call : List ℕ → ℕ → ℕ → ℕ → List ℕ → ℕ → List ℕ → Told
entry_call t secs nanos kind bytes port mac =
    pick (not (eqb (entry.entries_refusal t) 0)) (told 23 t)
    (pick (not (eqb (refusal (of_bytes kind bytes port)) 0)) (told 19 t)
    (outcome_told (add_entry t (entry.count t) (entry_of secs nanos (of_bytes kind bytes port) mac))))
