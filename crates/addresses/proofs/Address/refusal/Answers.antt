-- What is given goes by the test that was asked.
use mathlib.Core.Path.{sym, ◌∙◌}
use native.Mathlib.Omega.{arith}
use Rattle.refusal.proofs.Laws.{passes, refuses_as}
use Rattle.addresses.specs.Addresses.{refusal}
use Rattle.addresses.proofs.Ways.{address_taken, address_refused}
use Rattle.addresses.proofs.Address.refusal.Goals as goal

pub returns-then-is_well_formed : goal.returns-then-is_well_formed
returns-then-is_well_formed c = passes (refusal c.args.self) (address_taken c.args.self (sym c.is_well_formed.ensures ∙ c.if-is_well_formed.true))

pub returns-else-is_well_formed : goal.returns-else-is_well_formed
returns-else-is_well_formed c =
    refuses_as (refusal c.args.self) 19 (λ e. omega arith) (address_refused c.args.self (sym c.is_well_formed.ensures ∙ c.if-is_well_formed.false))
