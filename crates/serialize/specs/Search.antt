-- A search: the lowest place of which a test holds (document 01: searches take the lowest).
use Rattle.std.specs.Prelude.{ℕ, zero, suc, Bool, Option, Some, None}
use Rattle.serialize.specs.Choice.{pick}

-- the first of the k places from i on of which p holds
unfoldable pub first_from : (ℕ → Bool) → ℕ → ℕ → Option ℕ
first_from p i zero = None
first_from p i (suc k) = pick (p i) (Some i) (first_from p (suc i) k)
