-- The test holds at no place before i, so the search goes on from there.
use mathlib.Core.Path.{sym, ◌∙◌}
use borrow.Author.Rules.{rules}
use Rattle.serialize.proofs.Search.{scan_hit, scan_miss, scan_end}
use Rattle.addresses.proofs.list.find_first.Goals as goal
use Rattle.addresses.proofs.list.find_first.Goals.{then-i-n, else-i-n+then-holds}

pub loop-i-preserved : goal.loop-i-preserved
loop-i-preserved g c =
    let i = c.loop-i.i in
    let n = c.args.n in
    (search rules, λ p h. c.loop-i.invariant.1 p h ∙ scan_miss p i n c.if-i-n.false (sym (h i c.if-i-n.false c.holds.result c.holds.ensures) ∙ c.if-holds.false))

pub returns : goal.returns
returns g c = λ p h.
    let i = c.loop-i.i in
    let n = c.args.n in
    let rest = c.loop-i.invariant.1 p h in
    elim c.if-i-n.branch [
      | then-i-n w ↦ w.result-is ∙ sym (rest ∙ scan_end p i n w.if-i-n.true)
      | else-i-n+then-holds w ↦
          w.result-is ∙ sym (rest ∙ scan_hit p i n w.if-i-n.false (sym (h i w.if-i-n.false w.holds.result w.holds.ensures) ∙ w.if-holds.true))
    ]
