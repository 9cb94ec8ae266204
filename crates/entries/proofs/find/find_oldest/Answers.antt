-- The best so far is the first with the lowest time of the places passed.
use mathlib.Core.Path.{◌≡◌, refl, ap, ◌∙◌}
use native.Mathlib.Omega.{arith}
use borrow.Author.Rules.{rules}
use Rattle.entries.specs.Finds.{oldest_below}
use Rattle.entries.proofs.Oldest.{oldest_next}
use Rattle.entries.proofs.find.find_oldest.Goals as goal

pub loop-i-init : goal.loop-i-init
unfolding oldest_below
loop-i-init c = (search rules, refl, search rules)

pub loop-i-preserved : goal.loop-i-preserved
loop-i-preserved c =
    let a = c.args in
    (search rules, oldest_next a.entries.now a.k c.loop-i.best c.loop-i.i c.loop-i.invariant.1 c.older-best.ensures.0, c.older-best.ensures.1)

pub returns : goal.returns
returns c =
    let e : c.loop-i.i ≡ c.args.k = omega (arith, c.loop-i-test.false) in
    (c.loop-i.invariant.1 ∙ ap (oldest_below c.args.entries.now c.args.k) e, c.loop-i.invariant.2)
