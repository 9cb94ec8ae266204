-- Which entry decides, and which place is written (document 01, "How a connection lives", Request: the last entry with the same last 16
-- private bytes decides by its address; a match writes no entry; else the first empty place, else the first with the lowest time).
use Rattle.std.specs.Prelude.{ℕ, zero, suc, Bool, true, not, List, Option, Some, None}
use Rattle.serialize.specs.Choice.{pick}
use Rattle.serialize.specs.Search.{first_from}
use Rattle.times.specs.Times.{before}
use Rattle.addresses.specs.Addresses.{same}
use Rattle.entries.specs.declared.ConnectTokenEntry.{ConnectTokenEntry}
use Rattle.entries.specs.Layout.{used_at, time_at, address_at, match_at, written}

-- the last of the first k places of which p holds
unfoldable pub last_below : (ℕ → Bool) → ℕ → Option ℕ
last_below p zero = None
last_below p (suc k) = pick (p k) (Some k) (last_below p k)

abbrev pub find_match : List ℕ → ℕ → List ℕ → Option ℕ
find_match t k mac = last_below (match_at t k mac) k

abbrev pub empty_at : List ℕ → ℕ → Bool
empty_at t i = not (used_at t i)

abbrev pub find_empty : List ℕ → ℕ → Option ℕ
find_empty t k = first_from (empty_at t) 0 k

-- of two places the one with the lower time, the first where they are equal
unfoldable pub older : List ℕ → ℕ → ℕ → ℕ → ℕ
older t k best i = pick (before (time_at t k i) (time_at t k best)) i best

-- the first with the lowest time of the first m of k places
unfoldable pub oldest_below : List ℕ → ℕ → ℕ → ℕ
oldest_below t k zero = 0
oldest_below t k (suc m) = older t k (oldest_below t k m) m

abbrev pub oldest : List ℕ → ℕ → ℕ
oldest t k = oldest_below t k k

-- what a search found, else another value
unfoldable pub by_found : {A : Type 0} → Option ℕ → (ℕ → A) → A → A
by_found (Some i) f a = f i
by_found None f a = a

-- the first empty place, else the first with the lowest time
unfoldable pub place_for : List ℕ → ℕ → ℕ
place_for t k = by_found (find_empty t k) (λ i. i) (oldest t k)

-- what a call answers, and the entries that it leaves
pub record Outcome : Type 0 where
  pub answer : Bool
  pub entries : List ℕ

abbrev pub done : Bool → List ℕ → Outcome
done answer entries = record { answer = answer; entries = entries }

unfoldable pub add_entry : List ℕ → ℕ → ConnectTokenEntry → Outcome
add_entry t k e =
    by_found (find_match t k e.mac)
    (λ i. done (same (address_at t k i) e.address) t)
    (done true (written t k (place_for t k) e))
