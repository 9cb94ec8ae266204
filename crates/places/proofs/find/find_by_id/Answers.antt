-- A walk up the places: what is left of it finds what the whole finds.
use mathlib.Core.Path.{sym, ◌∙◌}
use Rattle.serialize.proofs.Search.{scan_start, scan_hit, scan_miss, scan_end}
use borrow.Author.Rules.{rules}
use Rattle.places.proofs.find.find_by_id.Goals as goal

pub loop-i-init : goal.loop-i-init
loop-i-init c = (scan_start _ _, search rules)

pub loop-i-preserved : goal.loop-i-preserved
loop-i-preserved c =
    let l = c.loop-i in
    (l.invariant.0 ∙ scan_miss _ l.i _ c.if-i-n.false (sym c.has_id.ensures ∙ c.if-has_id.false), search rules)

pub returns-then-i-n : goal.returns-then-i-n
returns-then-i-n c =
    let l = c.loop-i in
    sym (l.invariant.0 ∙ scan_end _ l.i _ c.if-i-n.true)

pub returns-then-has_id : goal.returns-then-has_id
returns-then-has_id c =
    let l = c.loop-i in
    sym (l.invariant.0 ∙ scan_hit _ l.i _ c.if-i-n.false (sym c.has_id.ensures ∙ c.if-has_id.true))
