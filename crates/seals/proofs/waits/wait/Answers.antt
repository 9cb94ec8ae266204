-- By what the search for the address gave.
use mathlib.Core.Path.{sym, ◌∙◌}
use Prim.Native.Nat.{◌<◌}
use Rattle.places.proofs.Searches.{address_found}
use Rattle.seals.proofs.Ways.{times_move, newcomer_waits}
use borrow.Author.Rules.{rules}
use Rattle.seals.proofs.waits.wait.Goals as goal

pub set_received_time-requires : goal.set_received_time-requires
set_received_time-requires c =
    let a = c.args in
    (c.requires, ((address_found a.pending.now a.m c.requires a.addr _).0 (sym c.find_by_address.ensures ∙ c.in-Some.is)).below)

pub set_sent_time-requires : goal.set_sent_time-requires
set_sent_time-requires c =
    let a = c.args in
    let j = c.in-Some.j in
    let b : j < a.m = ((address_found a.pending.now a.m c.requires a.addr j).0 (sym c.find_by_address.ensures ∙ c.in-Some.is)).below in
    search rules

pub returns-in-Some : goal.returns-in-Some
returns-in-Some c =
    let a = c.args in
    times_move a.pending.now a.m a.held.now a.addr a.time _ c.find_by_address.ensures
    _ c.in-Some.is _ c.set_received_time.ensures _ c.set_sent_time.ensures

pub returns-in-None : goal.returns-in-None
returns-in-None c =
    let a = c.args in
    newcomer_waits a.pending.now a.m a.held.now a.addr a.time _ c.find_by_address.ensures
    c.in-None.is _ c.take_place.ensures
