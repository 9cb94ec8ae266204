-- Each way out is a case of the definition, by the tests that led there.
use native.Mathlib.Omega.{arith}
use borrow.Author.Tests.{eq-eqb, ne_eqb, lt-ltb, le-ltb}
use Rattle.serialize.specs.Choice.{pick}
use Rattle.refusal.proofs.Laws.{passes, refuses_as}
use Rattle.places.specs.Layout.{places_refusal}
use Rattle.places.proofs.places_refusal.Goals as goal

pub returns-then-t-ne0 : goal.returns-then-t-ne0
unfolding places_refusal pick
returns-then-t-ne0 c =
    refuses_as (places_refusal c.args.t.now c.args.most) 23 (λ e. omega arith) (simp (ne_eqb _ _ c.if-t-ne0.true))

pub returns-then-n-eq0 : goal.returns-then-n-eq0
unfolding places_refusal pick
returns-then-n-eq0 c =
    refuses_as (places_refusal c.args.t.now c.args.most) 23 (λ e. omega arith) (simp (eq-eqb _ _ c.if-t-ne0.false, eq-eqb _ _ c.if-n-eq0.true))

pub returns-then-n-most : goal.returns-then-n-most
unfolding places_refusal pick
returns-then-n-most c =
    refuses_as (places_refusal c.args.t.now c.args.most) 23 (λ e. omega arith)
    (simp (eq-eqb _ _ c.if-t-ne0.false, ne_eqb _ _ c.if-n-eq0.false, lt-ltb _ _ c.if-n-most.true))

pub returns : goal.returns
unfolding places_refusal pick
returns c =
    passes (places_refusal c.args.t.now c.args.most)
    (simp (eq-eqb _ _ c.if-t-ne0.false, ne_eqb _ _ c.if-n-eq0.false, le-ltb _ _ c.if-n-most.false))
