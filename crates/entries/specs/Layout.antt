-- The token entries as lent bytes: k marks, then k bodies of 47 (document 01, "What must change shape" asks for a lent table; order 11
-- fixes marks first and bodies at fixed places). A body: time 8 + 4, address 1 + 16 + 2, the token's last 16 private bytes.
use Rattle.std.specs.Prelude.{ℕ, ◌+◌, ◌*◌, ◌/◌, ◌%◌, ◌<◌, ◌≤◌, ◌≡◌, Bool, not, ◌&&◌, List, [], ◌∷◌, ◌++◌, length, get_or, set, eqb, ltb}
use Rattle.serialize.specs.Choice.{pick}
use Rattle.serialize.specs.Runs.{part, splice, alike}
use Rattle.serialize.specs.Le.{of_le, to_le}
use Rattle.times.specs.declared.Time.{Time}
use Rattle.times.specs.Times.{time}
use Rattle.addresses.specs.declared.Address.{Address}
use Rattle.addresses.specs.Addresses.{address}
use Rattle.entries.specs.declared.ConnectTokenEntry.{ConnectTokenEntry}

-- how many places the bytes have
abbrev pub count : List ℕ → ℕ
count t = length t / 48

-- document 01's 23: no whole number of places, none, or over 2,048; 0 otherwise
unfoldable pub entries_refusal : List ℕ → ℕ
entries_refusal t = pick (not (eqb (length t % 48) 0)) 23 (pick (eqb (count t) 0) 23 (pick (ltb 2048 (count t)) 23 0))

-- k places, as set-up has tested them
pub record Shaped (t : List ℕ) (k : ℕ) : Type 0 where
  pub some : 0 < k
  pub few : k ≤ 2048
  pub long : length t ≡ k * 48

-- a mark of 0 is empty, any other used
abbrev pub used_at : List ℕ → ℕ → Bool
used_at t i = not (eqb (get_or t i 0) 0)

-- where the body of place i starts
abbrev pub body_at : ℕ → ℕ → ℕ
body_at k i = k + 47 * i

abbrev pub time_at : List ℕ → ℕ → ℕ → Time
time_at t k i = time (of_le (part t (body_at k i) 8)) (of_le (part t (body_at k i + 8) 4))

abbrev pub address_at : List ℕ → ℕ → ℕ → Address
address_at t k i =
    address (get_or t (body_at k i + 12) 0) (of_le (part t (body_at k i + 29) 2)) (of_le (part t (body_at k i + 13) 8)) (of_le (part t (body_at k i + 21) 8))

abbrev pub mac_at : List ℕ → ℕ → ℕ → List ℕ
mac_at t k i = part t (body_at k i + 31) 16

-- place i is used by a token with these last 16 private bytes
unfoldable pub match_at : List ℕ → ℕ → List ℕ → ℕ → Bool
match_at t k mac i = used_at t i && alike (mac_at t k i) (part mac 0 16)

-- ---- writing

abbrev pub address_bytes : Address → List ℕ
address_bytes a = (a.kind ∷ []) ++ to_le 8 a.low ++ to_le 8 a.high ++ to_le 2 a.port

-- a body, its nanoseconds in four bytes: a clock's are below 10^9
unfoldable pub body_of : ConnectTokenEntry → List ℕ
body_of e = to_le 8 e.time.secs ++ to_le 4 e.time.nanos ++ address_bytes e.address ++ part e.mac 0 16

-- an entry written in order 11's sequence: mark empty, body, mark used
unfoldable pub written : List ℕ → ℕ → ℕ → ConnectTokenEntry → List ℕ
written t k i e = set (splice (set t i 0) (body_at k i) (body_of e)) i 1
