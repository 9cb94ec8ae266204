-- Each way out is a case of the definition, by the tests that led there.
use mathlib.Core.Path.{refl, sym, ◌∙◌}
use native.Mathlib.Omega.{arith}
use Rattle.refusal.proofs.Laws.{passed, passes, refuses_as}
use Rattle.upkeep.proofs.Ways.{places_number, entries_number, passed_up, passed_on_23, slots_refused, pending_refused, entries_refused, list_uneven, limit_over, lengths_pass}
use Rattle.upkeep.proofs.setup.lengths_refusal.Goals as goal

pub returns-in_err-places_refusal : goal.returns-in_err-places_refusal
returns-in_err-places_refusal c =
    let a = c.args in
    passed_up _ _ c.from_residual.ensures.1
    ∙ passed_on_23 _ _ c.places_refusal.ensures _ c.in_err-places_refusal.was _ (places_number a.slots.now 1024)
    (slots_refused a.max_clients a.slots.now a.pending.now a.entries.now a.public_addresses.now _ refl)

pub returns-in_err-places_refusal-2 : goal.returns-in_err-places_refusal-2
returns-in_err-places_refusal-2 c =
    let a = c.args in
    passed_up _ _ c.from_residual-in_err-places_refusal-2.ensures.1
    ∙ passed_on_23 _ _ c.places_refusal-2.ensures _ c.in_err-places_refusal-2.was _ (places_number a.pending.now 4096)
    (pending_refused a.max_clients a.slots.now a.pending.now a.entries.now a.public_addresses.now
    _ refl (sym (passed _ _ c.places_refusal.ensures _ c.in_ok-places_refusal.was)) _ refl)

pub returns-in_err-entries_refusal : goal.returns-in_err-entries_refusal
returns-in_err-entries_refusal c =
    let a = c.args in
    passed_up _ _ c.from_residual-in_err-entries_refusal.ensures.1
    ∙ passed_on_23 _ _ c.entries_refusal.ensures _ c.in_err-entries_refusal.was _ (entries_number a.entries.now)
    (entries_refused a.max_clients a.slots.now a.pending.now a.entries.now a.public_addresses.now
    _ refl (sym (passed _ _ c.places_refusal.ensures _ c.in_ok-places_refusal.was))
    _ refl (sym (passed _ _ c.places_refusal-2.ensures _ c.in_ok-places_refusal-2.was)) _ refl)

pub returns-then-public_addresses-ne0 : goal.returns-then-public_addresses-ne0
returns-then-public_addresses-ne0 c =
    let a = c.args in
    refuses_as _ 23 (λ z. omega arith)
    (list_uneven a.max_clients a.slots.now a.pending.now a.entries.now a.public_addresses.now
    _ refl (sym (passed _ _ c.places_refusal.ensures _ c.in_ok-places_refusal.was))
    _ refl (sym (passed _ _ c.places_refusal-2.ensures _ c.in_ok-places_refusal-2.was))
    _ refl (sym (passed _ _ c.entries_refusal.ensures _ c.in_ok-entries_refusal.was)) c.if-public_addresses-ne0.true)

pub returns-then-max_clients-count_places : goal.returns-then-max_clients-count_places
returns-then-max_clients-count_places c =
    let a = c.args in
    refuses_as _ 23 (λ z. omega arith)
    (limit_over a.max_clients a.slots.now a.pending.now a.entries.now a.public_addresses.now
    _ refl (sym (passed _ _ c.places_refusal.ensures _ c.in_ok-places_refusal.was))
    _ refl (sym (passed _ _ c.places_refusal-2.ensures _ c.in_ok-places_refusal-2.was))
    _ refl (sym (passed _ _ c.entries_refusal.ensures _ c.in_ok-entries_refusal.was)) c.if-public_addresses-ne0.false
    _ c.count_places.ensures c.if-max_clients-count_places.true)

pub returns : goal.returns
returns c =
    let a = c.args in
    passes _
    (lengths_pass a.max_clients a.slots.now a.pending.now a.entries.now a.public_addresses.now
    _ refl (sym (passed _ _ c.places_refusal.ensures _ c.in_ok-places_refusal.was))
    _ refl (sym (passed _ _ c.places_refusal-2.ensures _ c.in_ok-places_refusal-2.was))
    _ refl (sym (passed _ _ c.entries_refusal.ensures _ c.in_ok-entries_refusal.was)) c.if-public_addresses-ne0.false
    _ c.count_places.ensures c.if-max_clients-count_places.false)
