-- A key is given, or none is.
use mathlib.Core.Path.{◌∙◌}
use Rattle.decode.specs.Decodes.{decode_sealed}
use Rattle.decode.proofs.reading.decode_sealed.Goals as goal

pub returns-in-Some : goal.returns-in-Some
unfolding decode_sealed
returns-in-Some c = c.decode_keyed.ensures ∙ simp c.in-Some.is

pub returns-in-None : goal.returns-in-None
unfolding decode_sealed
returns-in-None c = c.ended.ensures ∙ simp c.in-None.is
