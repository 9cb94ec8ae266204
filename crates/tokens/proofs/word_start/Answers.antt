-- What is left of the line, word after word.
use Rattle.std.proofs.Common.{◌≡◌, ℕ, sym, refl, ap, ◌∙◌, add-one, arith, rules}
use Rattle.tokens.specs.Text.{past, after_word}
use Rattle.tokens.proofs.word_start.Goals as goal

pub loop-init : goal.loop-init
unfolding past
loop-init c = (search rules, refl, search rules)

pub loop-preserved : goal.loop-preserved
unfolding past
loop-preserved c =
    let line = c.args.line.now in
    let l = c.loop in
    (omega arith, c.next_word-at.ensures.0 ∙ ap after_word l.invariant.1 ∙ ap (λ (k : ℕ). past k line) (sym (add-one l.counter)), c.next_word-at.ensures.1)

pub returns : goal.returns
returns c =
    let line = c.args.line.now in
    let l = c.loop in
    let e : l.counter ≡ c.args.which = omega arith in
    (l.invariant.1 ∙ ap (λ (k : ℕ). past k line) e, l.invariant.2)
