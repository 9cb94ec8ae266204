-- Either way is the definition's, by the tests that led there.
use borrow.Author.Tests.{eq-eqb, ne_eqb, lt-ltb, le-ltb}
use Rattle.serialize.specs.Choice.{pick}
use Rattle.refusal.specs.Verdicts.{verdict}
use Rattle.server.specs.Ready.{length_refusal}
use Rattle.server.proofs.ready.length_refusal.Goals as goal
use Rattle.server.proofs.ready.length_refusal.Goals.{then-n-eq0-via-then-n-eq0, then-n-eq0-via-else-n-eq0+then-n-most, then-n-eq0-via-else-n-eq0+else-n-most+then-len-n}

pub returns-then-n-eq0 : goal.returns-then-n-eq0
unfolding length_refusal pick verdict
returns-then-n-eq0 c =
    elim c.then-n-eq0.branch [
      | then-n-eq0-via-then-n-eq0 w ↦ simp (eq-eqb _ _ w.if-n-eq0.true)
      | then-n-eq0-via-else-n-eq0+then-n-most w ↦ simp (ne_eqb _ _ w.if-n-eq0.false, lt-ltb _ _ w.if-n-most.true)
      | then-n-eq0-via-else-n-eq0+else-n-most+then-len-n w ↦
          simp (ne_eqb _ _ w.if-n-eq0.false, le-ltb _ _ w.if-n-most.false, ne_eqb _ _ w.if-len-n.true)
    ]

pub returns : goal.returns
unfolding length_refusal pick verdict
returns c = simp (ne_eqb _ _ c.if-n-eq0.false, le-ltb _ _ c.if-n-most.false, eq-eqb _ _ c.if-len-n.false)
