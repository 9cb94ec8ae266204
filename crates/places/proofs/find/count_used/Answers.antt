-- A walk up the marks: the count so far is that of the places passed.
use mathlib.Core.Path.{◌≡◌, ap, ◌∙◌}
use Prim.Native.Nat.{◌<◌}
use native.Mathlib.Omega.{arith}
use lib.ListN.{length, take, get_or, length-take}
use lib.Seq.{get_or-take}
use Rattle.places.specs.Finds.{used_count, count_one}
use Rattle.places.proofs.Counted.{count_start, count_turn, bit_counts, one_at_most}
use borrow.Author.Rules.{rules}
use Rattle.places.proofs.find.count_used.Goals as goal

pub loop-mark-init : goal.loop-mark-init
loop-mark-init c = (search rules, count_start _)

pub loop-mark-preserved : goal.loop-mark-preserved
loop-mark-preserved c =
    let t = c.args.t.now in
    let l = c.loop-mark in
    let i = l.mark-index in
    let k : length (take c.args.n t) ≡ c.args.n = simp length-take (omega (arith, c.requires.long)) in
    let h : i < c.args.n = omega (arith, c.loop-mark-test.true, k) in
    let one : c.from-count.result ≡ count_one (get_or t i 0) =
    c.from-count.ensures ∙ bit_counts _ ∙ ap count_one (get_or-take c.args.n t i 0 h) in
    (omega (arith, l.invariant.0, one, one_at_most (get_or t i 0)), count_turn t i l.count _ l.invariant.1 one)

pub returns : goal.returns
returns c =
    let t = c.args.t.now in
    let l = c.loop-mark in
    let k : length (take c.args.n t) ≡ c.args.n = simp length-take (omega (arith, c.requires.long)) in
    let e : l.mark-index ≡ c.args.n = omega (arith, k, l.auto.mark-index-end, c.loop-mark-test.false) in
    l.invariant.1 ∙ ap (used_count t) e
