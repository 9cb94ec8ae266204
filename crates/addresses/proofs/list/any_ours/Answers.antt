-- The answer is whether the search found one.
use mathlib.Core.Path.{ap, ◌∙◌}
use Rattle.addresses.specs.Addresses.{is_found, any_ours}
use Rattle.addresses.proofs.Ways.{some_found}
use Rattle.addresses.proofs.list.any_ours.Goals as goal

pub returns : goal.returns
unfolding any_ours
returns c = c.is_some.ensures ∙ some_found c.find_ours.result ∙ ap is_found c.find_ours.ensures
