-- Addresses (document 01, "How the host answers": an address is kind 4 or 6, 16 bytes, port u16; kind 4 uses the first four bytes, the
-- rest zero), and lists of them.
use Rattle.std.specs.Prelude.{ℕ, ◌+◌, ◌*◌, ◌/◌, ◌%◌, ◌^◌, Bool, true, false, not, ◌&&◌, ◌||◌, List, [], ◌∷◌, ◌++◌, length, get_or, eqb, ltb, Option, Some, None}
use Rattle.serialize.specs.Choice.{pick}
use Rattle.serialize.specs.Runs.{part}
use Rattle.serialize.specs.Le.{of_le, to_le}
use Rattle.serialize.specs.Search.{first_from}
use Rattle.addresses.specs.declared.Address.{Address}

abbrev pub address : ℕ → ℕ → ℕ → ℕ → Address
address kind port low high = record { kind = kind; port = port; low = low; high = high }

-- ---- bytes: the sixteen as two little-endian words

abbrev pub of_bytes : ℕ → List ℕ → ℕ → Address
of_bytes kind bytes port = address kind port (of_le (part bytes 0 8)) (of_le (part bytes 8 8))

unfoldable pub to_bytes : Address → List ℕ
to_bytes a = to_le 8 a.low ++ to_le 8 a.high

-- kind 6, or kind 4 with nothing after its first four bytes
unfoldable pub well_formed : ℕ → ℕ → ℕ → Bool
well_formed kind low high = eqb kind 6 || (eqb kind 4 && (ltb low (2 ^ 32) && eqb high 0))

-- document 01's 19; 0 for a well-formed address
unfoldable pub refusal : Address → ℕ
refusal a = pick (well_formed a.kind a.low a.high) 0 19

unfoldable pub same : Address → Address → Bool
same a b = eqb a.kind b.kind && (eqb a.port b.port && (eqb a.low b.low && eqb a.high b.high))

-- ---- words: three to an address

abbrev pub first_word : Address → ℕ
first_word a = a.kind * 65536 + a.port

abbrev pub words_of : Address → List ℕ
words_of a = first_word a ∷ a.low ∷ a.high ∷ []

abbrev pub of_words : ℕ → ℕ → ℕ → Address
of_words first low high = address (first / 65536 % 256) (first % 65536) low high

-- the three words from index at are these
unfoldable pub has_words : List ℕ → ℕ → ℕ → ℕ → ℕ → Bool
has_words t at first low high = eqb (get_or t at 0) first && (eqb (get_or t (at + 1) 0) low && eqb (get_or t (at + 2) 0) high)

-- ---- lists

-- how many addresses a list has
abbrev pub count : List ℕ → ℕ
count list = length list / 3

abbrev pub address_at : List ℕ → ℕ → Address
address_at list i = of_words (get_or list (3 * i) 0) (get_or list (3 * i + 1) 0) (get_or list (3 * i + 2) 0)

-- something was found
unfoldable pub is_found : Option ℕ → Bool
is_found (Some i) = true
is_found None = false

-- address i of the list is malformed: a first word over 24 bits has no kind at all
unfoldable pub malformed_at : List ℕ → ℕ → Bool
malformed_at list i = not (well_formed (get_or list (3 * i) 0 / 65536) (get_or list (3 * i + 1) 0) (get_or list (3 * i + 2) 0))

abbrev pub find_malformed : List ℕ → Option ℕ
find_malformed list = first_from (malformed_at list) 0 (count list)

-- document 01's 19; 0 where all are well-formed
unfoldable pub list_refusal : List ℕ → ℕ
list_refusal list = pick (is_found (find_malformed list)) 19 0

-- the first address of the list that has these words
abbrev pub holds_at : List ℕ → ℕ → ℕ → ℕ → ℕ → Bool
holds_at list first low high i = has_words list (3 * i) first low high

abbrev pub find_words : List ℕ → ℕ → ℕ → ℕ → Option ℕ
find_words list first low high = first_from (holds_at list first low high) 0 (count list)

-- address i of the list is one of ours
unfoldable pub is_ours : List ℕ → List ℕ → ℕ → Bool
is_ours list ours i = is_found (find_words ours (get_or list (3 * i) 0) (get_or list (3 * i + 1) 0) (get_or list (3 * i + 2) 0))

abbrev pub find_ours : List ℕ → List ℕ → Option ℕ
find_ours list ours = first_from (is_ours list ours) 0 (count list)

-- document 01's 13 is given where this is false: some address of the list is ours
unfoldable pub any_ours : List ℕ → List ℕ → Bool
any_ours list ours = is_found (find_ours list ours)
