-- No place from i on matches, so the last match below k is the last below i.
use mathlib.Core.Path.{refl, sym, ◌∙◌}
use native.Mathlib.Omega.{arith}
use borrow.Author.Rules.{rules}
use Rattle.entries.specs.Layout.{match_at}
use Rattle.entries.proofs.Last.{down_hit, down_miss, down_end}
use Rattle.entries.proofs.find.find_match.Goals as goal

pub loop-i-init : goal.loop-i-init
loop-i-init c = (search rules, refl)

pub loop-i-preserved : goal.loop-i-preserved
loop-i-preserved c =
    let a = c.args in
    let p = match_at a.entries.now a.k a.mac.now in
    let other = sym c.is_match.ensures ∙ c.if-is_match.false in
    (search rules, c.loop-i.invariant.1 ∙ down_miss p c.loop-i.i (λ z. omega (arith, c.if-i-eq0.false)) other)

pub returns-then-i-eq0 : goal.returns-then-i-eq0
returns-then-i-eq0 c =
    let a = c.args in
    let p = match_at a.entries.now a.k a.mac.now in
    sym (c.loop-i.invariant.1 ∙ down_end p c.loop-i.i (omega (arith, c.if-i-eq0.true)))

pub returns-then-is_match : goal.returns-then-is_match
returns-then-is_match c =
    let a = c.args in
    let p = match_at a.entries.now a.k a.mac.now in
    let found = sym c.is_match.ensures ∙ c.if-is_match.true in
    sym (c.loop-i.invariant.1 ∙ down_hit p c.loop-i.i (λ z. omega (arith, c.if-i-eq0.false)) found)
