-- Each way out is a case of the definition, by the tests that led there.
use borrow.Author.Tests.{eq-eqb, ne_eqb}
use Rattle.addresses.specs.Addresses.{has_words}
use Rattle.addresses.proofs.Chain.{last_of_three}
use Rattle.addresses.proofs.has_words.Goals as goal

pub returns-then-t-at : goal.returns-then-t-at
unfolding has_words
returns-then-t-at c = simp (ne_eqb _ _ c.if-t-at.true)

pub returns-then-t-at-2 : goal.returns-then-t-at-2
unfolding has_words
returns-then-t-at-2 c = simp (eq-eqb _ _ c.if-t-at.false, ne_eqb _ _ c.if-t-at-2.true)

pub returns : goal.returns
unfolding has_words
returns c = last_of_three (eq-eqb _ _ c.if-t-at.false) (eq-eqb _ _ c.if-t-at-2.false)
