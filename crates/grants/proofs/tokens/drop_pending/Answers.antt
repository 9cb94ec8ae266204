-- By what the search found: that place is emptied, or nothing is.
use mathlib.Core.Path.{sym, ◌∙◌}
use native.Mathlib.Omega.{arith}
use Rattle.places.proofs.Searches.{address_found}
use Rattle.grants.proofs.Tests.{place_dropped, none_dropped}
use Rattle.grants.proofs.tokens.drop_pending.Goals as goal

pub empty-requires : goal.empty-requires
empty-requires c =
    let a = c.args in
    let h = ((address_found a.pending.now a.m c.requires a.addr _).0 (sym c.find_by_address.ensures ∙ c.in-Some.is)).below in
    (c.requires, omega arith)

pub returns-in-Some : goal.returns-in-Some
returns-in-Some c =
    let a = c.args in
    place_dropped a.pending.now a.m a.addr _ c.find_by_address.ensures _ c.in-Some.is _ c.empty.ensures

pub returns-in-None : goal.returns-in-None
returns-in-None c =
    let a = c.args in
    none_dropped a.pending.now a.m a.addr _ c.find_by_address.ensures c.in-None.is
