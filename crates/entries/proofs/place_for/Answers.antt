-- The place goes by what the search for an empty one found.
use mathlib.Core.Path.{sym, ◌∙◌}
use Rattle.entries.proofs.Ways.{place_empty, place_oldest}
use Rattle.entries.proofs.place_for.Goals as goal

pub returns-in-Some : goal.returns-in-Some
returns-in-Some c =
    let a = c.args in
    place_empty a.entries.now a.k (sym c.find_empty.ensures ∙ c.in-Some.is)

pub returns-in-None : goal.returns-in-None
returns-in-None c =
    let a = c.args in
    let o = c.find_oldest.ensures in
    (place_oldest a.entries.now a.k (sym c.find_empty.ensures ∙ c.in-None.is) o.0, o.1)
