-- Another id decides at once; of a place with this one the mark does.
use mathlib.Core.Path.{◌∙◌}
use borrow.Author.Tests.{ne_eqb}
use Rattle.places.proofs.Ways.{id_here, id_other}
use Rattle.places.proofs.find.has_id.Goals as goal

pub returns-then-t-n : goal.returns-then-t-n
returns-then-t-n c =
    let a = c.args in
    id_here a.t.now a.n a.i a.client_id c.if-t-n.true

pub returns-else-t-n : goal.returns-else-t-n
returns-else-t-n c =
    let a = c.args in
    ne_eqb _ _ c.if-t-n.false ∙ id_other a.t.now a.n a.i a.client_id c.if-t-n.false
