-- The answer is the other than that of the test on the address's three words.
use mathlib.Core.Path.{ap}
use mathlib.Core.Bool.{not}
use Rattle.addresses.specs.Addresses.{malformed_at}
use Rattle.addresses.proofs.list.is_malformed.Goals as goal

pub returns : goal.returns
unfolding malformed_at
returns c = ap not c.is_well_formed.ensures
