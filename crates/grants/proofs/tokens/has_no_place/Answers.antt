-- The search by address decides, and then the one for a free place.
use mathlib.Core.Path.{refl, ap, sym, ◌∙◌}
use mathlib.Core.Bool.{not}
use Rattle.grants.proofs.Tests.{found_told, none_told, place_pending, place_free}
use Rattle.grants.proofs.tokens.has_no_place.Goals as goal

pub returns-then-is_none : goal.returns-then-is_none
returns-then-is_none c =
    let a = c.args in
    none_told _ _ c.is_none-then-is_none.ensures
    ∙ place_free a.server a.pending.now a.addr _ c.find_by_address.ensures _ refl (sym (found_told _) ∙ c.is_none.ensures ∙ ap not c.if-is_none.true)
    _ c.find_free.ensures _ refl

pub returns-else-is_none : goal.returns-else-is_none
returns-else-is_none c =
    let a = c.args in
    c.if-is_none.false
    ∙ place_pending a.server a.pending.now a.addr _ c.find_by_address.ensures _ refl (sym (found_told _) ∙ c.is_none.ensures ∙ ap not c.if-is_none.false)
