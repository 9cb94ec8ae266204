-- The addresses' test, then the list's, and then the copy.
use mathlib.Core.Path.{refl, sym}
use Rattle.refusal.proofs.Laws.{passed, refused_as, refused_some}
use Rattle.queries.proofs.Ways.{public_refused, public_short, public_copied}
use Rattle.queries.proofs.lists.addresses.Goals as goal

pub returns-in-Err : goal.returns-in-Err
returns-in-Err c =
    let a = c.args in
    public_refused a.server a.public_addresses.now a.list.now _ (refused_as _ _ c.list_refusal.ensures _ c.in-Err.is) (refused_some _ _ c.list_refusal.ensures _ c.in-Err.is)

pub returns-then-list-len : goal.returns-then-list-len
returns-then-list-len c =
    let a = c.args in
    let free = sym (passed _ _ c.list_refusal.ensures _ c.in_default.is) in
    public_short a.server a.public_addresses.now a.list.now _ refl free c.if-list-len.true

pub returns : goal.returns
returns c =
    let a = c.args in
    let free = sym (passed _ _ c.list_refusal.ensures _ c.in_default.is) in
    public_copied a.server a.public_addresses.now a.list.now _ refl
    free c.if-list-len.false _ c.copy.ensures
