-- Either way is the definition's, by the tests that led there.
use borrow.Author.Tests.{eq-eqb, ne_eqb}
use Rattle.server.specs.Ready.{unfit}
use Rattle.server.proofs.Verdicts.{kind_compared}
use Rattle.server.proofs.ready.is_unfit.Goals as goal
use Rattle.server.proofs.ready.is_unfit.Goals.{then-ne-via-then-ne, then-ne-via-else-ne+then-datagram-ask, then-ne-via-else-ne+else-datagram-ask+then-out-ask}

pub returns-then-ne : goal.returns-then-ne
unfolding unfit
returns-then-ne c =
    let a = c.args in
    let compared = kind_compared a.ask.stage a.kind in
    elim c.then-ne.branch [
      | then-ne-via-then-ne w ↦ simp (← compared, ← c.wanted.ensures, ← c.ne.ensures, w.if-ne.true)
      | then-ne-via-else-ne+then-datagram-ask w ↦ simp (← compared, ← c.wanted.ensures, ← c.ne.ensures, w.if-ne.false, ne_eqb _ _ w.if-datagram-ask.true)
      | then-ne-via-else-ne+else-datagram-ask+then-out-ask w ↦
          simp (← compared, ← c.wanted.ensures, ← c.ne.ensures, w.if-ne.false, eq-eqb _ _ w.if-datagram-ask.false, ne_eqb _ _ w.if-out-ask.true)
    ]

pub returns : goal.returns
unfolding unfit
returns c =
    let a = c.args in
    simp
    (← kind_compared a.ask.stage a.kind, ← c.wanted.ensures, ← c.ne.ensures, c.if-ne.false, eq-eqb _ _ c.if-datagram-ask.false, eq-eqb _ _ c.if-out-ask.false, c.misfits.ensures)
