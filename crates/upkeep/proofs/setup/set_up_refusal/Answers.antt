-- The lengths decide first, and then the addresses.
use mathlib.Core.Path.{refl, sym, ap, ◌∙◌}
use Rattle.refusal.specs.Verdicts.{verdict}
use Rattle.refusal.proofs.Laws.{passed}
use Rattle.addresses.specs.Addresses.{list_refusal}
use Rattle.server.proofs.Ways.{first_refuses, second_decides}
use Rattle.upkeep.specs.SetUps.{lengths_refusal}
use Rattle.upkeep.proofs.Ways.{passed_up, passed_on}
use Rattle.upkeep.proofs.setup.set_up_refusal.Goals as goal

pub returns-in_err-lengths_refusal : goal.returns-in_err-lengths_refusal
returns-in_err-lengths_refusal c =
    let a = c.args in
    passed_up _ _ c.from_residual.ensures.1
    ∙ passed_on _ _ c.lengths_refusal.ensures _ c.in_err-lengths_refusal.was _
    (first_refuses
    (lengths_refusal a.max_clients a.slots.now a.pending.now a.entries.now a.public_addresses.now) (list_refusal a.public_addresses.now) _ refl)

pub returns : goal.returns
returns c =
    let a = c.args in
    c.list_refusal.ensures
    ∙ ap verdict
    (second_decides
    (lengths_refusal a.max_clients a.slots.now a.pending.now a.entries.now a.public_addresses.now)
    (list_refusal a.public_addresses.now) _ refl (sym (passed _ _ c.lengths_refusal.ensures _ c.in_ok-lengths_refusal.was)) _ refl)
