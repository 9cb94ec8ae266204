-- The fields of a place in one form, a run of words of one of the four columns, so that what a write leaves is said once over field and
-- place.
use Rattle.std.specs.Prelude.{ℕ, ◌+◌, ◌<◌, ◌≤◌, ◌≡◌, List, length}
use Rattle.serialize.specs.Runs.{part}
use Rattle.replay_protection.specs.Ours.{width}
use Rattle.places.specs.Layout.{id_at, address_at, body_at, body_words}

pub data Column : Type 0 where
  Marks : Column
  Ids : Column
  Addresses : Column
  Bodies : Column

-- words of one place in a column, and where they start
abbrev pub wide : Column → ℕ
wide Marks = 1
wide Ids = 1
wide Addresses = 3
wide Bodies = body_words

abbrev pub column_at : Column → ℕ → ℕ → ℕ
column_at Marks n i = i
column_at Ids n i = id_at n i
column_at Addresses n i = address_at n i
column_at Bodies n i = body_at n i

-- a run of a column's words
pub record Field : Type 0 where
  pub column : Column
  pub offset : ℕ
  pub size : ℕ

abbrev pub field : Column → ℕ → ℕ → Field
field column offset size = record { column = column; offset = offset; size = size }

-- it lies in its place
abbrev pub Within : Field → Type 0
Within f = f.offset + f.size ≤ wide f.column

abbrev pub field_at : Field → ℕ → ℕ → ℕ
field_at f n i = column_at f.column n i + f.offset

-- what field f of place i holds
abbrev pub field_of : List ℕ → ℕ → ℕ → Field → List ℕ
field_of t n i f = part t (field_at f n i) f.size

-- ---- the fields by name

abbrev pub mark : Field
mark = field Marks 0 1

abbrev pub id : Field
id = field Ids 0 1

abbrev pub addr : Field
addr = field Addresses 0 3

abbrev pub confirmed : Field
confirmed = field Bodies 0 1

abbrev pub send_key : Field
send_key = field Bodies 1 4

abbrev pub receive_key : Field
receive_key = field Bodies 5 4

abbrev pub received : Field
received = field Bodies 9 2

abbrev pub sent : Field
sent = field Bodies 11 2

abbrev pub timeout : Field
timeout = field Bodies 13 1

abbrev pub sequence : Field
sequence = field Bodies 14 1

abbrev pub expiry : Field
expiry = field Bodies 15 1

abbrev pub user_data : Field
user_data = field Bodies 16 32

abbrev pub window : Field
window = field Bodies 48 (1 + width)

-- ---- what a write leaves

-- u is t but for place i of n: no field of another place differs
pub record Elsewhere (n i : ℕ) (t u : List ℕ) : Type 0 where
  pub long : length u ≡ length t
  pub same : (j : ℕ) → j < n → (i ≡ j → ⊥) → (g : Field) → Within g → field_of u n j g ≡ field_of t n j g

-- u has the marks, ids and addresses of t
pub record SameColumns (n : ℕ) (t u : List ℕ) : Type 0 where
  pub marks : (j : ℕ) → j < n → field_of u n j mark ≡ field_of t n j mark
  pub ids : (j : ℕ) → j < n → field_of u n j id ≡ field_of t n j id
  pub addresses : (j : ℕ) → j < n → field_of u n j addr ≡ field_of t n j addr
