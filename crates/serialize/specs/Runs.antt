-- Runs of a list: what stands at a place, and what a list is once a run was written to a place of it.
use Rattle.std.specs.Prelude.{ℕ, ◌+◌, ◌<◌, Bool, true, false, List, [], ◌∷◌, ◌++◌, length, take, drop, get_or, replicate, eqb}

-- the n elements of l from index at
abbrev pub part : {A : Type 0} → List A → ℕ → ℕ → List A
part l at n = take n (drop at l)

-- l with vs in the place of as many elements from index at
unfoldable pub splice : {A : Type 0} → List A → ℕ → List A → List A
splice l at vs = take at l ++ vs ++ drop (at + length vs) l

-- n zeros
abbrev pub zeros : ℕ → List ℕ
zeros n = replicate n 0

-- both, as a test
abbrev pub both : Bool → Bool → Bool
both true b = b
both false b = false

-- xs and ys have the same elements, as a test
unfoldable pub alike : List ℕ → List ℕ → Bool
alike [] [] = true
alike [] (y ∷ ys) = false
alike (x ∷ xs) [] = false
alike (x ∷ xs) (y ∷ ys) = both (eqb x y) (alike xs ys)

-- every element of l is below b: 256 for bytes, 2 ^ 64 for words
abbrev pub Below : ℕ → List ℕ → Type 0
Below b l = (i : ℕ) → get_or l i 0 < b
