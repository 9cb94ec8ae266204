-- Each case of the enum is a case of the definition.
use mathlib.Core.Path.{sym, ap, ◌∙◌}
use Rattle.calls.specs.Desk.{saying, said_decoding}
use Rattle.calls.proofs.desk.said_decoding.Goals as goal

pub returns-in-Refused : goal.returns-in-Refused
returns-in-Refused c = ap (saying 0) (c.from.ensures ∙ c.number.ensures) ∙ sym (ap said_decoding c.in-Refused.is)

pub returns-in-Asked : goal.returns-in-Asked
returns-in-Asked c = sym (ap said_decoding c.in-Asked.is)

pub returns-in-Read : goal.returns-in-Read
returns-in-Read c = sym (ap said_decoding c.in-Read.is)
