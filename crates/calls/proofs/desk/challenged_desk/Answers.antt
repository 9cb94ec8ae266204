-- The answer, the client, the ask and what is kept, laid out.
use mathlib.Core.Path.{◌∙◌}
use Rattle.calls.proofs.desk.challenged_desk.Goals as goal

pub returns : goal.returns
returns c = c.lay.ensures ∙ simp (c.kept_proof.ensures, c.said_proving.ensures, c.no_show-shown.ensures)
