-- Each case of the enum is a case of the definition.
use mathlib.Core.Path.{sym, ap, ◌∙◌}
use Rattle.calls.specs.Desk.{saying, said_proving}
use Rattle.calls.proofs.desk.said_proving.Goals as goal

pub returns-in-Refused : goal.returns-in-Refused
returns-in-Refused c = ap (saying 0) (c.from.ensures ∙ c.number.ensures) ∙ sym (ap said_proving c.in-Refused.is)

pub returns-in-Asked : goal.returns-in-Asked
returns-in-Asked c = sym (ap said_proving c.in-Asked.is)

pub returns-in-Proved : goal.returns-in-Proved
returns-in-Proved c = sym (ap said_proving c.in-Proved.is)
