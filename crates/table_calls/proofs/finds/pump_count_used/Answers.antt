-- The table's test, and then the count.
use mathlib.Core.Path.{sym, ap, subst, ◌∙◌}
use mathlib.Core.List.{[], ◌∷◌}
use Prim.Native.Nat.{ℕ}
use native.Mathlib.Omega.{arith}
use Rattle.refusal.proofs.Laws.{passed}
use Rattle.places.specs.Layout.{Shaped, count, places_refusal}
use Rattle.places.specs.Finds.{used_count}
use Rattle.places.proofs.Ways.{taken_shaped}
use Rattle.table_calls.specs.Calls.{told, count_call}
use Rattle.table_calls.proofs.Laid.{table_refused, table_taken}
use Rattle.table_calls.proofs.finds.pump_count_used.Goals as goal

pub returns-in-Err : goal.returns-in-Err
unfolding count_call
returns-in-Err c =
    let a = c.args in
    let t = c.args.t.now in
    table_refused t a.count.now _ c.places_refusal.ensures (told 1 (used_count t (count t) ∷ [])) c.in-Err.refusal _ c.in-Err.is c.number.ensures

pub count_used-requires : goal.count_used-requires
count_used-requires c =
    let t = c.args.t.now in
    subst (Shaped t) (sym c.count_places.ensures) (taken_shaped t 4096 (omega arith) (sym (passed (places_refusal t 4096) _ c.places_refusal.ensures c.in_default.field-0 c.in_default.is)))

pub returns : goal.returns
unfolding count_call
returns c =
    let a = c.args in
    let t = c.args.t.now in
    ap (λ (x : ℕ). told 1 (x ∷ [])) (c.count_used.ensures ∙ ap (used_count t) c.count_places.ensures)
    ∙ table_taken t a.count.now _ c.places_refusal.ensures (told 1 (used_count t (count t) ∷ [])) c.in_default.field-0 c.in_default.is
