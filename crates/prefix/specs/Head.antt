-- The head of a packet: prefix byte and sequence bytes (document 01, "Bytes on the wire": low four bits the type, high four the
-- count L of sequence bytes, which follow; the writer uses the fewest bytes, sequence 0 uses none; the reader takes any L
-- from 0 to 8, padded forms too).
use Rattle.std.specs.Prelude.{ℕ, ◌+◌, ◌*◌, ◌/◌, ◌%◌, ◌^◌, ◌≤◌, ◌<◌, ◌≡◌, List, ◌∷◌, length, get_or, ltb, Option, Some, None, Result, Ok, Err}
use Rattle.serialize.specs.Choice.{pick}
use Rattle.serialize.specs.Search.{first_from}
use Rattle.serialize.specs.Runs.{part}
use Rattle.serialize.specs.Le.{of_le, to_le}
use Rattle.prefix.specs.declared.Prefix.{Prefix}

-- the place that a search found, or 9 where 0 to 8 were in vain
abbrev pub place_or9 : Option ℕ → ℕ
place_or9 (Some n) = n
place_or9 None = 9

-- the fewest bytes that hold v: the first n of 0, 1, .. 8 with v < 256 ^ n
unfoldable pub fewest : ℕ → ℕ
fewest v = place_or9 (first_from (λ n. ltb v (256 ^ n)) 0 9)

-- what that means: v fits into n bytes, and into no fewer
pub record Fewest (v n : ℕ) : Type 0 where
  pub holds : v < 256 ^ n
  pub least : (m : ℕ) → v < 256 ^ m → n ≤ m

-- the prefix byte of a type and a count of sequence bytes
abbrev pub prefix_byte : ℕ → ℕ → ℕ
prefix_byte kind count = kind % 16 + 16 * count

-- a type and a count
abbrev pub says : ℕ → ℕ → Prefix
says kind count = record { kind = kind; count = count }

-- what a prefix byte says
abbrev pub prefix_of : ℕ → Prefix
prefix_of b = says (b % 16) (b / 16)

-- a whole head as the writer makes it
abbrev pub head_bytes : ℕ → ℕ → List ℕ
head_bytes kind sequence = prefix_byte kind (fewest sequence) ∷ to_le (fewest sequence) sequence

-- what a reader makes of the count bytes from index at of l: any count from 0 to 8 is read, padded or not; a count over 8 is refused
-- by 4, and a datagram that ends too soon by 7
unfoldable pub sequence_at : List ℕ → ℕ → ℕ → Result ℕ ℕ
sequence_at l at count =
    pick (ltb 8 count) (Err 4)
    (pick (ltb (length l) (at + count)) (Err 7)
    (Ok (of_le (part l at count))))

-- document 01's number for the answer: 0 for a sequence
abbrev pub refusal_of : Result ℕ ℕ → ℕ
refusal_of (Ok v) = 0
refusal_of (Err n) = n

-- a head stands at index at of l: a prefix byte that says kind and count, and after it the bytes of the sequence
pub record Head (l : List ℕ) (at kind count sequence : ℕ) : Type 0 where
  pub said : prefix_of (get_or l at 0) ≡ says kind count
  pub follows : sequence_at l (at + 1) count ≡ Ok sequence
