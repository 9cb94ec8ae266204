-- What the calls on heads hand out as words.
use Rattle.std.specs.Prelude.{ℕ, ◌/◌, ◌%◌, List, [], ◌∷◌, Result, Ok, Err}
use Rattle.prefix.specs.Head.{sequence_at, refusal_of}

-- a type and a count
abbrev pub prefix_words : ℕ → List ℕ
prefix_words value = value % 16 ∷ value / 16 ∷ []

-- the sequence that was read, 0 where it was refused
abbrev pub number_or0 : Result ℕ ℕ → ℕ
number_or0 (Ok v) = v
number_or0 (Err n) = 0

-- document 01's number, 0 for none, and the sequence
abbrev pub told : Result ℕ ℕ → List ℕ
told s = refusal_of s ∷ number_or0 s ∷ []

abbrev pub sequence_words : List ℕ → ℕ → ℕ → List ℕ
sequence_words source at len = told (sequence_at source at len)

-- a count, and the bytes that it is of
pub record Written : Type 0 where
  pub count : ℕ
  pub bytes : List ℕ

abbrev pub written : ℕ → List ℕ → Written
written count bytes = record { count = count; bytes = bytes }
