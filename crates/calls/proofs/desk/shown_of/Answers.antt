-- Each case of the enum is a case of the definition.
use mathlib.Core.Path.{sym, ap, ◌∙◌}
use Rattle.calls.specs.Desk.{shown_of}
use Rattle.calls.proofs.desk.shown_of.Goals as goal

pub returns-in-Read : goal.returns-in-Read
returns-in-Read c = c.show.ensures ∙ sym (ap shown_of c.in-Read.is)
