-- A line's tokens, and what they say: numbers of a base, bytes in hexadecimal.
use Rattle.std.specs.Prelude.{◌≡◌, ℕ, zero, suc, ◌+◌, ◌-◌, ◌*◌, ◌/◌, ◌%◌, ◌^◌, ◌≤◌, min, Bool, true, List, [], ◌∷◌, length, take, drop, ◌==◌, nat_le, nat_lt, slice_index, count_by}
use Rattle.serialize.specs.Choice.{pick}
use Rattle.serialize.specs.Runs.{both}

-- ---- tokens

-- the text before the first space
unfoldable pub word : List ℕ → List ℕ
word [] = []
word (c ∷ cs) = pick (c == 32) [] (c ∷ word cs)

-- what stands after that space
unfoldable pub after_word : List ℕ → List ℕ
after_word [] = []
after_word (c ∷ cs) = pick (c == 32) cs (after_word cs)

-- what stands after k words
unfoldable pub past : ℕ → List ℕ → List ℕ
past zero l = l
past (suc k) l = after_word (past k l)

abbrev pub token_of : List ℕ → ℕ → List ℕ
token_of line which = word (past which line)

-- how many spaces there are
abbrev pub spaces_of : List ℕ → ℕ
spaces_of line = count_by (λ c. c == 32) line

-- the index after the first sign, or the text's length
unfoldable pub after_sign_of : List ℕ → ℕ
after_sign_of [] = 0
after_sign_of (c ∷ cs) = suc (pick (c == 61) 0 (after_sign_of cs))

-- ---- digits

-- a digit's value; 16 for what is no digit of lower case
unfoldable pub digit_of : ℕ → ℕ
digit_of c = pick (nat_lt c 48) 16 (pick (nat_le c 57) (c - 48) (pick (nat_lt c 97) 16 (pick (nat_le c 102) (c - 97 + 10) 16)))

-- all are digits of a base
unfoldable pub all_below : ℕ → List ℕ → Bool
all_below base [] = true
all_below base (c ∷ cs) = both (nat_lt (digit_of c) base) (all_below base cs)

-- the number with a digit more; what passes 64 bits is dropped
abbrev pub with_digit : ℕ → ℕ → ℕ → ℕ
with_digit base v c = (v % ((2 ^ 64 - 1) / base + 1) * base + digit_of c % base) % 2 ^ 64

unfoldable pub value_from : ℕ → ℕ → List ℕ → ℕ
value_from base v [] = v
value_from base v (c ∷ cs) = value_from base (with_digit base v c) cs

-- the byte of two hexadecimal digits
abbrev pub pair_of : ℕ → ℕ → ℕ
pair_of high low = digit_of high % 16 * 16 + digit_of low % 16

-- the first n bytes that a token says
unfoldable pub unhex : ℕ → List ℕ → List ℕ
unhex zero w = []
unhex (suc n) w = pair_of (slice_index w 0) (slice_index w 1) ∷ unhex n (drop 2 w)

-- the bytes that a token says, as many as there is room for
abbrev pub bytes_of : ℕ → List ℕ → List ℕ
bytes_of room w = unhex (min (length w / 2) room) w

-- a list has n bytes at its start, and those are as many as are taken
abbrev pub IsPrefixLen : ℕ → List ℕ → Type 0
IsPrefixLen n xs = (n ≤ length xs) × (n ≡ length (take n xs))
