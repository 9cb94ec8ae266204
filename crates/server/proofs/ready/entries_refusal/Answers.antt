-- Either way is the definition's, by the tests that led there.
use borrow.Author.Tests.{eq-eqb, ne_eqb, lt-ltb, le-ltb}
use Rattle.serialize.specs.Choice.{pick}
use Rattle.refusal.specs.Verdicts.{verdict}
use Rattle.server.specs.Ready.{entries_refusal}
use Rattle.server.proofs.ready.entries_refusal.Goals as goal
use Rattle.server.proofs.ready.entries_refusal.Goals.{then-k-eq0-via-then-k-eq0, then-k-eq0-via-else-k-eq0+then-k-gt-MAX_ENTRIES, then-k-eq0-via-else-k-eq0+else-k-gt-MAX_ENTRIES+then-entries-k}

pub returns-then-k-eq0 : goal.returns-then-k-eq0
unfolding entries_refusal pick verdict
returns-then-k-eq0 c =
    elim c.then-k-eq0.branch [
      | then-k-eq0-via-then-k-eq0 w ↦ simp (eq-eqb _ _ w.if-k-eq0.true)
      | then-k-eq0-via-else-k-eq0+then-k-gt-MAX_ENTRIES w ↦ simp (ne_eqb _ _ w.if-k-eq0.false, lt-ltb _ _ w.if-k-gt-MAX_ENTRIES.true)
      | then-k-eq0-via-else-k-eq0+else-k-gt-MAX_ENTRIES+then-entries-k w ↦
          simp (ne_eqb _ _ w.if-k-eq0.false, le-ltb _ _ w.if-k-gt-MAX_ENTRIES.false, ne_eqb _ _ w.if-entries-k.true)
    ]

pub returns : goal.returns
unfolding entries_refusal pick verdict
returns c = simp (ne_eqb _ _ c.if-k-eq0.false, le-ltb _ _ c.if-k-gt-MAX_ENTRIES.false, eq-eqb _ _ c.if-entries-k.false)
