-- `==` on slices is the test of the definition.
use mathlib.Core.Path.{◌∙◌}
use Rattle.serialize.proofs.Lists.{pointwise_alike}
use Rattle.print.proofs.bytes.Goals as goal

pub returns : goal.returns
returns c = rw (c.eq.ensures ∙ pointwise_alike c.args.got.now c.args.want.now) at c.verdict.ensures
