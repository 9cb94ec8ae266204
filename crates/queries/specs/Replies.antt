-- A reply in numbers (document 01, "Our forms for each place": a definition gives this paper's number and values for each of an enum's cases).
use Rattle.std.specs.Prelude.{ℕ, List, [], ◌∷◌}
use Rattle.addresses.specs.Addresses.{first_word}
use Rattle.queries.specs.declared.Reply.{Reply}
use Rattle.queries.specs.declared.Reply.TheVariants.{Refused, Nothing, Connected, Count, Addr, Since, UserData}

-- the refusal's number, 0 where nothing is refused
unfoldable pub number_of : Reply → ℕ
number_of (Refused n) = n
number_of Nothing = 0
number_of Connected = 0
number_of (Count n) = 0
number_of (Addr a) = 0
number_of (Since t) = 0
number_of UserData = 0

-- the case, its number, and its values
abbrev pub laid : ℕ → ℕ → ℕ → ℕ → ℕ → List ℕ
laid case number a b c = case ∷ number ∷ a ∷ b ∷ c ∷ []

unfoldable pub words_of : Reply → List ℕ
words_of (Refused n) = laid 0 n 0 0 0
words_of Nothing = laid 1 0 0 0 0
words_of Connected = laid 2 0 0 0 0
words_of (Count n) = laid 3 0 n 0 0
words_of (Addr a) = laid 4 0 (first_word a) a.low a.high
words_of (Since t) = laid 5 0 t.secs t.nanos 0
words_of UserData = laid 6 0 0 0 0
