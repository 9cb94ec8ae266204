-- No place before i is empty, so the search goes on from there.
use mathlib.Core.Path.{sym, ◌∙◌}
use borrow.Author.Rules.{rules}
use Rattle.serialize.proofs.Search.{scan_start, scan_hit, scan_miss, scan_end}
use Rattle.entries.specs.Finds.{empty_at}
use Rattle.entries.proofs.Marks.{empty_found, empty_missed}
use Rattle.entries.proofs.find.find_empty.Goals as goal

pub loop-i-init : goal.loop-i-init
loop-i-init c = (search rules, scan_start (empty_at c.args.entries.now) c.args.k)

pub loop-i-preserved : goal.loop-i-preserved
loop-i-preserved c =
    let t = c.args.entries.now in
    let i = c.loop-i.i in
    let used = empty_missed t i c.if-entries-i-eq0.false in
    (search rules, c.loop-i.invariant.1 ∙ scan_miss (empty_at t) i c.args.k c.if-i-k.false used)

pub returns-then-i-k : goal.returns-then-i-k
returns-then-i-k c = sym (c.loop-i.invariant.1 ∙ scan_end (empty_at c.args.entries.now) c.loop-i.i c.args.k c.if-i-k.true)

pub returns-then-entries-i-eq0 : goal.returns-then-entries-i-eq0
returns-then-entries-i-eq0 c =
    let t = c.args.entries.now in
    let i = c.loop-i.i in
    sym (c.loop-i.invariant.1 ∙ scan_hit (empty_at t) i c.args.k c.if-i-k.false (empty_found t i c.if-entries-i-eq0.true))
