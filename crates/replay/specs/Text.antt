-- What a line's tokens say: a number in hexadecimal, or that there is none.
use Rattle.std.specs.Prelude.{ℕ, Bool, List, [], ◌∷◌}
use Rattle.serialize.specs.Choice.{pick}
use Rattle.serialize.specs.Runs.{alike}
use Rattle.tokens.specs.Text.{value_from}

-- the sign of what is missing
abbrev pub is_none : List ℕ → Bool
is_none w = alike w (45 ∷ [])

-- the number that a token says; 0 where it is missing
unfoldable pub number_of : List ℕ → ℕ
number_of w = pick (is_none w) 0 (value_from 16 0 w)
