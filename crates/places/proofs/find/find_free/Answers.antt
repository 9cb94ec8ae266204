-- A walk up the marks: what is left of it finds what the whole finds.
use mathlib.Core.Path.{sym, ◌∙◌}
use borrow.Author.Tests.{eq-eqb, ne_eqb}
use Rattle.serialize.proofs.Search.{scan_start, scan_hit, scan_miss, scan_end}
use borrow.Author.Rules.{rules}
use Rattle.places.proofs.find.find_free.Goals as goal

pub loop-free-init : goal.loop-free-init
loop-free-init c = (scan_start _ _, search rules)

pub loop-free-preserved : goal.loop-free-preserved
loop-free-preserved c =
    let l = c.loop-free in
    (l.invariant.0 ∙ scan_miss _ l.free _ c.if-free-n.false (ne_eqb _ _ c.if-t-free-eq0.false), search rules)

pub returns-then-free-n : goal.returns-then-free-n
returns-then-free-n c =
    let l = c.loop-free in
    sym (l.invariant.0 ∙ scan_end _ l.free _ c.if-free-n.true)

pub returns-then-t-free-eq0 : goal.returns-then-t-free-eq0
returns-then-t-free-eq0 c =
    let l = c.loop-free in
    sym (l.invariant.0 ∙ scan_hit _ l.free _ c.if-free-n.false (eq-eqb _ _ c.if-t-free-eq0.true))
