-- The answer, the packet, the ask and what is kept, laid out.
use mathlib.Core.Path.{◌∙◌}
use Rattle.calls.proofs.desk.decoded_desk.Goals as goal

pub returns : goal.returns
returns c = c.lay.ensures ∙ simp (c.kept_opening.ensures, c.shown_of.ensures, c.said_decoding.ensures)
