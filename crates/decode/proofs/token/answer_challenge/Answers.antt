-- An ask is open, or none is.
use mathlib.Core.Path.{◌∙◌}
use Rattle.decode.proofs.token.answer_challenge.Goals as goal

pub returns-in-None : goal.returns-in-None
returns-in-None c = c.unproved.ensures ∙ simp c.in-None.is

pub returns-in-Some : goal.returns-in-Some
returns-in-Some c = c.answer_proof.ensures ∙ simp c.in-Some.is
