-- Little-endian numbers (document 01, "Bytes on the wire": integers are little-endian), and bytes eight to a word.
use Rattle.std.specs.Prelude.{ℕ, zero, suc, ◌+◌, ◌*◌, ◌/◌, ◌%◌, List, [], ◌∷◌, ◌++◌, take, drop}

-- the number whose bytes are bs, least first
unfoldable pub of_le : List ℕ → ℕ
of_le [] = 0
of_le (b ∷ bs) = b + 256 * of_le bs

-- the k low bytes of v, least first
unfoldable pub to_le : ℕ → ℕ → List ℕ
to_le zero v = []
to_le (suc k) v = v % 256 ∷ to_le k (v / 256)

-- the first n words of bs, each of eight bytes
unfoldable pub words : ℕ → List ℕ → List ℕ
words zero bs = []
words (suc n) bs = of_le (take 8 bs) ∷ words n (drop 8 bs)

-- the bytes of ws, eight to a word
unfoldable pub bytes_of : List ℕ → List ℕ
bytes_of [] = []
bytes_of (w ∷ ws) = to_le 8 w ++ bytes_of ws
