-- The slots' test, and then what the search found.
use mathlib.Core.Path.{refl, sym, ap, ◌∙◌}
use Rattle.refusal.proofs.Laws.{passed, refused_as, refused_some}
use Rattle.queries.specs.declared.Reply.TheVariants.{Refused, UserData}
use Rattle.queries.specs.Queries.{user_data_of, told}
use Rattle.queries.proofs.Ways.{is_shaped, is_refused, is_place, is_found, is_missed}
use Rattle.queries.proofs.clients.user_data.Goals as goal

pub returns-in-Err : goal.returns-in-Err
unfolding user_data_of
returns-in-Err c =
    let a = c.args in
    is_refused a.server a.slots.now _ (refused_as _ _ c.slots_refusal.ensures _ c.in-Err.is) (λ n. told (Refused n) a.out.now) _ (refused_some _ _ c.slots_refusal.ensures _ c.in-Err.is)

pub find_by_id-requires : goal.find_by_id-requires
find_by_id-requires c =
    let a = c.args in
    let free = sym (passed _ _ c.slots_refusal.ensures _ c.in_default.is) in
    is_shaped a.server a.slots.now _ refl free

pub user_data-requires : goal.user_data-requires
user_data-requires c =
    let a = c.args in
    let free = sym (passed _ _ c.slots_refusal.ensures _ c.in_default.is) in
    is_place a.server a.slots.now _ refl free a.client_id _
    c.find_by_id.ensures _ c.in-Some.is

pub returns-in-Some : goal.returns-in-Some
unfolding user_data_of
returns-in-Some c =
    let a = c.args in
    let free = sym (passed _ _ c.slots_refusal.ensures _ c.in_default.is) in
    ap (told UserData) c.user_data.ensures
    ∙ is_found a.server a.slots.now _ refl free a.client_id _
    c.find_by_id.ensures (λ n. told (Refused n) a.out.now) _ _ _ c.in-Some.is

pub returns-in-None : goal.returns-in-None
unfolding user_data_of
returns-in-None c =
    let a = c.args in
    let free = sym (passed _ _ c.slots_refusal.ensures _ c.in_default.is) in
    is_missed a.server a.slots.now _ refl free a.client_id _
    c.find_by_id.ensures (λ n. told (Refused n) a.out.now) _ _ c.in-None.is
