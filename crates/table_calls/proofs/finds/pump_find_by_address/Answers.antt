-- The table's test, the address's, and then what the search found.
use mathlib.Core.Path.{sym, ap, subst, ◌∙◌}
use mathlib.Core.Bool.{not}
use mathlib.Core.List.{List}
use Prim.Native.Nat.{ℕ}
use lib.Dec.{eqb}
use native.Mathlib.Omega.{arith}
use Rattle.serialize.specs.Choice.{pick}
use Rattle.addresses.specs.declared.Address.{Address}
use Rattle.addresses.specs.Addresses.{of_bytes, refusal}
use Rattle.refusal.proofs.Laws.{passed}
use Rattle.places.specs.Layout.{Shaped, count, places_refusal}
use Rattle.places.specs.Finds.{find_address}
use Rattle.places.proofs.Ways.{taken_shaped}
use Rattle.table_calls.specs.Calls.{Told, told, found_as, find_address_call}
use Rattle.table_calls.proofs.Laid.{table_refused, table_taken, address_refused, address_taken, laid_find}
use Rattle.table_calls.proofs.finds.pump_find_by_address.Goals as goal

-- what follows the table's test
abbrev after : List ℕ → Address → List ℕ → Told
after t a place = pick (not (eqb (refusal a) 0)) (told 19 place) (found_as (find_address t (count t) a) place)

pub returns-in-Err : goal.returns-in-Err
unfolding find_address_call
returns-in-Err c =
    let a = c.args in
    let t = c.args.t.now in
    table_refused t a.place.now _ c.places_refusal.ensures (after t (of_bytes a.kind a.bytes.now a.port) a.place.now) c.in-Err.refusal _ c.in-Err.is c.number.ensures

pub returns-in-Err-refusal : goal.returns-in-Err-refusal
unfolding find_address_call
returns-in-Err-refusal c =
    let a = c.args in
    let t = c.args.t.now in
    let b : Address = of_bytes a.kind a.bytes.now a.port in
    address_refused _ b c.new-addr.ensures _ c.refusal.ensures a.place.now (found_as (find_address t (count t) b) a.place.now) c.in-Err-refusal.refusal _ c.in-Err-refusal.is c.number-in-Err-refusal.ensures
    ∙ table_taken t a.place.now _ c.places_refusal.ensures (after t b a.place.now) c.in_default.field-0 c.in_default.is

pub find_by_address-requires : goal.find_by_address-requires
find_by_address-requires c =
    let t = c.args.t.now in
    subst (Shaped t) (sym c.count_places.ensures) (taken_shaped t 4096 (omega arith) (sym (passed (places_refusal t 4096) _ c.places_refusal.ensures c.in_default.field-0 c.in_default.is)))

pub returns : goal.returns
unfolding find_address_call
returns c =
    let a = c.args in
    let t = c.args.t.now in
    let b : Address = of_bytes a.kind a.bytes.now a.port in
    let made = c.new-addr.ensures in
    laid_find a.place.now (λ n. find_address t n b) _ (count t) c.count_places.ensures _ (c.find_by_address.ensures ∙ ap (find_address t _) made) _ _ c.lay.ensures
    ∙ address_taken _ b made _ c.refusal.ensures a.place.now (found_as (find_address t (count t) b) a.place.now) c.in_default-refusal.field-0 c.in_default-refusal.is
    ∙ table_taken t a.place.now _ c.places_refusal.ensures (after t b a.place.now) c.in_default.field-0 c.in_default.is
