-- The search by address decides, and then the one by id.
use mathlib.Core.Path.{◌∙◌}
use Rattle.grants.proofs.Tests.{found_told, connected_by_address, connected_by_id}
use Rattle.grants.proofs.tokens.is_connected.Goals as goal

pub returns-then-is_some : goal.returns-then-is_some
returns-then-is_some c =
    let a = c.args in
    c.if-is_some.true
    ∙ connected_by_address a.server a.slots.now a.addr a.client_id _ c.find_by_address.ensures _ (c.is_some.ensures ∙ found_told _) c.if-is_some.true

pub returns-else-is_some : goal.returns-else-is_some
returns-else-is_some c =
    let a = c.args in
    connected_by_id a.server a.slots.now a.addr a.client_id _ c.find_by_address.ensures _ (c.is_some.ensures ∙ found_told _) c.if-is_some.false
    _ c.find_by_id.ensures _ (c.is_some-else-is_some.ensures ∙ found_told _)
