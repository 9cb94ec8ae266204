-- An ask is open, or none is.
use Rattle.calls.proofs.desk.kept_opening.Goals as goal

pub returns-in-Some : goal.returns-in-Some
returns-in-Some c = simp (c.to_u8.ensures, c.in-Some.is)
