-- Each way out is a case of the definition, by the tests that led there.
use native.Mathlib.Omega.{arith}
use borrow.Author.Tests.{eq-eqb, ne_eqb, lt-ltb, le-ltb}
use Rattle.serialize.specs.Choice.{pick}
use Rattle.refusal.proofs.Laws.{passes, refuses_as}
use Rattle.entries.specs.Layout.{entries_refusal}
use Rattle.entries.proofs.entries_refusal.Goals as goal

pub returns-then-entries-ne0 : goal.returns-then-entries-ne0
unfolding entries_refusal pick
returns-then-entries-ne0 c =
    refuses_as (entries_refusal c.args.entries.now) 23 (λ e. omega arith) (simp (ne_eqb _ _ c.if-entries-ne0.true))

pub returns-then-k-eq0 : goal.returns-then-k-eq0
unfolding entries_refusal pick
returns-then-k-eq0 c =
    refuses_as (entries_refusal c.args.entries.now) 23 (λ e. omega arith) (simp (eq-eqb _ _ c.if-entries-ne0.false, eq-eqb _ _ c.if-k-eq0.true))

pub returns-then-k-gt-MAX_ENTRIES : goal.returns-then-k-gt-MAX_ENTRIES
unfolding entries_refusal pick
returns-then-k-gt-MAX_ENTRIES c =
    refuses_as (entries_refusal c.args.entries.now) 23 (λ e. omega arith)
    (simp (eq-eqb _ _ c.if-entries-ne0.false, ne_eqb _ _ c.if-k-eq0.false, lt-ltb _ _ c.if-k-gt-MAX_ENTRIES.true))

pub returns : goal.returns
unfolding entries_refusal pick
returns c =
    passes (entries_refusal c.args.entries.now)
    (simp (eq-eqb _ _ c.if-entries-ne0.false, ne_eqb _ _ c.if-k-eq0.false, le-ltb _ _ c.if-k-gt-MAX_ENTRIES.false))
