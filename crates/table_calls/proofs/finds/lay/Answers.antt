-- Each arm is a case of the definition.
use Rattle.std.specs.Prelude.{ℕ, Option}
use mathlib.Core.Path.{sym, ap}
use Rattle.table_calls.specs.Calls.{found_as}
use Rattle.table_calls.proofs.finds.lay.Goals as goal

pub returns-in-Some : goal.returns-in-Some
unfolding found_as
returns-in-Some c = sym (ap (λ (f : Option ℕ). found_as f c.args.place.now) c.in-Some.is)

pub returns-in-None : goal.returns-in-None
unfolding found_as
returns-in-None c = sym (ap (λ (f : Option ℕ). found_as f c.args.place.now) c.in-None.is)
