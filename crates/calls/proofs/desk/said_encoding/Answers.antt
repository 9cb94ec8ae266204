-- Each case of the enum is a case of the definition.
use mathlib.Core.Path.{sym, ap, ◌∙◌}
use Rattle.calls.specs.Desk.{saying, said_encoding}
use Rattle.calls.proofs.desk.said_encoding.Goals as goal

pub returns-in-Refused : goal.returns-in-Refused
returns-in-Refused c = ap (saying 0) (c.from.ensures ∙ c.number.ensures) ∙ sym (ap said_encoding c.in-Refused.is)

pub returns-in-Asked : goal.returns-in-Asked
returns-in-Asked c = sym (ap said_encoding c.in-Asked.is)

pub returns-in-Length : goal.returns-in-Length
returns-in-Length c = sym (ap said_encoding c.in-Length.is)
