-- The answer, the ask and what is kept, laid out.
use mathlib.Core.Path.{◌∙◌}
use Rattle.calls.proofs.desk.encoded_desk.Goals as goal

pub returns : goal.returns
returns c = c.lay.ensures ∙ simp (c.kept_sealing.ensures, c.no_show.ensures, c.said_encoding.ensures)
