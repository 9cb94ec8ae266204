-- By what the search for a free place gave.
use mathlib.Core.Path.{sym, ◌∙◌}
use Rattle.places.proofs.Searches.{free_found}
use Rattle.seals.proofs.Ways.{place_taken, no_place}
use Rattle.seals.proofs.waits.take_place.Goals as goal

pub fill-requires : goal.fill-requires
fill-requires c = (c.requires, ((free_found c.args.pending.now c.args.m _).0 (sym c.find_free.ensures ∙ c.in-Some.is)).below)

pub returns-in-Some : goal.returns-in-Some
returns-in-Some c =
    let a = c.args in
    place_taken a.pending.now a.m a.held.now a.addr a.time _ c.find_free.ensures
    _ c.in-Some.is _ c.newcomer-connection.ensures _ c.fill.ensures

pub returns-in-None : goal.returns-in-None
returns-in-None c =
    let a = c.args in
    no_place a.pending.now a.m a.held.now a.addr a.time _ c.find_free.ensures c.in-None.is
