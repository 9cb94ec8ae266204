-- Another address decides at once; of a place with this one the mark does.
use mathlib.Core.Path.{sym, ◌∙◌}
use Rattle.places.proofs.Ways.{address_here, address_other}
use Rattle.places.proofs.find.has_address.Goals as goal

pub returns-then-has_words : goal.returns-then-has_words
returns-then-has_words c =
    let a = c.args in
    address_here a.t.now a.n a.i a.first a.low a.high (sym c.has_words.ensures ∙ c.if-has_words.true)

pub returns-else-has_words : goal.returns-else-has_words
returns-else-has_words c =
    let a = c.args in
    c.if-has_words.false ∙ address_other a.t.now a.n a.i a.first a.low a.high (sym c.has_words.ensures ∙ c.if-has_words.false)
