-- The table's test, and then what the search found.
use mathlib.Core.Path.{sym, subst, ◌∙◌}
use native.Mathlib.Omega.{arith}
use Rattle.refusal.proofs.Laws.{passed}
use Rattle.places.specs.Layout.{Shaped, count, places_refusal}
use Rattle.places.specs.Finds.{find_id}
use Rattle.places.proofs.Ways.{taken_shaped}
use Rattle.table_calls.specs.Calls.{found_as, find_id_call}
use Rattle.table_calls.proofs.Laid.{table_refused, table_taken, laid_find}
use Rattle.table_calls.proofs.finds.pump_find_by_id.Goals as goal

pub returns-in-Err : goal.returns-in-Err
unfolding find_id_call
returns-in-Err c =
    let a = c.args in
    let t = c.args.t.now in
    table_refused t a.place.now _ c.places_refusal.ensures (found_as (find_id t (count t) a.client_id) a.place.now) c.in-Err.refusal _ c.in-Err.is c.number.ensures

pub find_by_id-requires : goal.find_by_id-requires
find_by_id-requires c =
    let t = c.args.t.now in
    subst (Shaped t) (sym c.count_places.ensures) (taken_shaped t 4096 (omega arith) (sym (passed (places_refusal t 4096) _ c.places_refusal.ensures c.in_default.field-0 c.in_default.is)))

pub returns : goal.returns
unfolding find_id_call
returns c =
    let a = c.args in
    let t = c.args.t.now in
    laid_find a.place.now (λ n. find_id t n a.client_id) _ (count t) c.count_places.ensures _ c.find_by_id.ensures _ _ c.lay.ensures
    ∙ table_taken t a.place.now _ c.places_refusal.ensures (found_as (find_id t (count t) a.client_id) a.place.now) c.in_default.field-0 c.in_default.is
