-- Each way out is a case of the definition, by the tests and the start time that led there.
use mathlib.Core.Path.{refl, sym, ap, ◌∙◌}
use Rattle.refusal.proofs.Laws.{passed, refused_as, refused_some}
use Rattle.upkeep.specs.SetUps.{done}
use Rattle.upkeep.proofs.Tested.{slots_shaped, pending_shaped, entries_shaped}
use Rattle.upkeep.proofs.Ways.{passed_up, set_up_stops, set_up_late, set_up_done}
use Rattle.upkeep.proofs.setup.set_up.Goals as goal

pub returns-in_err-set_up_refusal : goal.returns-in_err-set_up_refusal
returns-in_err-set_up_refusal c =
    let a = c.args in
    ap (λ x. done x a.slots.now a.pending.now a.entries.now) (passed_up _ _ c.from_residual.ensures.1)
    ∙ set_up_stops a.config a.slots.now a.pending.now a.entries.now a.public_addresses.now
    _ (refused_as _ _ c.set_up_refusal.ensures _ c.in_err-set_up_refusal.was) (refused_some _ _ c.set_up_refusal.ensures _ c.in_err-set_up_refusal.was)

pub returns-in_err-clock : goal.returns-in_err-clock
returns-in_err-clock c =
    let a = c.args in
    ap (λ x. done x a.slots.now a.pending.now a.entries.now) (passed_up _ _ c.from_residual-in_err-clock.ensures.1)
    ∙ set_up_late a.config a.slots.now a.pending.now a.entries.now a.public_addresses.now
    _ refl (sym (passed _ _ c.set_up_refusal.ensures _ c.in_ok-set_up_refusal.was)) _ c.zero.ensures _ c.add.ensures _ c.in_err-clock.was

pub empty_all-requires : goal.empty_all-requires
empty_all-requires c =
    let a = c.args in
    slots_shaped a.config.max_clients a.slots.now a.pending.now a.entries.now a.public_addresses.now
    _ refl (sym (passed _ _ c.set_up_refusal.ensures _ c.in_ok-set_up_refusal.was)) _ c.count_places-n.ensures

pub empty_all-requires-2 : goal.empty_all-requires-2
empty_all-requires-2 c =
    let a = c.args in
    pending_shaped a.config.max_clients a.slots.now a.pending.now a.entries.now a.public_addresses.now
    _ refl (sym (passed _ _ c.set_up_refusal.ensures _ c.in_ok-set_up_refusal.was)) _ c.count_places-m.ensures

pub empty_entries-requires : goal.empty_entries-requires
empty_entries-requires c =
    let a = c.args in
    entries_shaped a.config.max_clients a.slots.now a.pending.now a.entries.now a.public_addresses.now
    _ refl (sym (passed _ _ c.set_up_refusal.ensures _ c.in_ok-set_up_refusal.was)) _ c.count_entries-k.ensures

pub returns : goal.returns
returns c =
    let a = c.args in
    set_up_done a.config a.slots.now a.pending.now a.entries.now a.public_addresses.now
    _ refl (sym (passed _ _ c.set_up_refusal.ensures _ c.in_ok-set_up_refusal.was)) _ c.zero.ensures _ c.add.ensures _ c.in_ok-clock.was
    _ _ _ c.count_places-n.ensures c.count_places-m.ensures c.count_entries-k.ensures
    _ _ _ c.empty_all.ensures c.empty_all-2.ensures c.empty_entries.ensures _ c.fixed-set.ensures _ c.begun.ensures
