-- One of two values by a test: a definition states its refusals with it, in their order, each before what follows it.
use Rattle.std.specs.Prelude.{Bool, true, false}

unfoldable pub pick : {A : Type 0} → Bool → A → A → A
pick true a b = a
pick false a b = b
