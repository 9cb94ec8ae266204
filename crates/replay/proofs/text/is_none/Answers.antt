-- The library's comparison of two slices, element by element, is ours.
use Rattle.std.proofs.Common.{ap, ◌∙◌}
use Rattle.serialize.specs.Runs.{alike}
use Rattle.serialize.proofs.Lists.{pointwise_alike}
use Rattle.replay.proofs.text.is_none.Goals as goal

pub returns : goal.returns
returns c = c.eq.ensures ∙ pointwise_alike _ _ ∙ ap (alike c.args.word.now) c.as_slice.ensures
