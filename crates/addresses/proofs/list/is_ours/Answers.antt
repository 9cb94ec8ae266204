-- The answer is whether the search among ours found one with the address's words.
use mathlib.Core.Path.{ap, ◌∙◌}
use Rattle.addresses.specs.Addresses.{is_found, is_ours}
use Rattle.addresses.proofs.Ways.{some_found}
use Rattle.addresses.proofs.list.is_ours.Goals as goal

pub returns : goal.returns
unfolding is_ours
returns c = c.is_some.ensures ∙ some_found c.find_words.result ∙ ap is_found c.find_words.ensures
