-- What a test comes to: nothing refused, or a refusal, which is its number here. Definitions of tests give numbers, 0 for none.
use Rattle.std.specs.Prelude.{ℕ, zero, suc, Result, Ok, Err}

-- what a test comes to that gives this number
unfoldable pub verdict : ℕ → Result (Unit {0}) ℕ
verdict zero = Ok tt
verdict (suc n) = Err (suc n)

-- and back: the number of what a test came to
abbrev pub number : Result (Unit {0}) ℕ → ℕ
number (Ok u) = 0
number (Err n) = n
