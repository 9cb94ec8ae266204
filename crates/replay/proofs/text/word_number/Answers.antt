-- A missing one is 0.
use Rattle.std.proofs.Common.{Bool, sym, ap, ◌∙◌}
use Rattle.serialize.specs.Choice.{pick}
use Rattle.tokens.specs.Text.{value_from}
use Rattle.replay.specs.Text.{number_of}
use Rattle.replay.proofs.text.word_number.Goals as goal

pub returns-then-is_none : goal.returns-then-is_none
unfolding number_of pick
returns-then-is_none c =
    let w = c.args.word.now in
    sym (ap (λ (b : Bool). pick b 0 (value_from 16 0 w)) (sym c.is_none.ensures ∙ c.if-is_none.true))

pub returns : goal.returns
unfolding number_of pick
returns c =
    let w = c.args.word.now in
    c.value.ensures ∙ sym (ap (λ (b : Bool). pick b 0 (value_from 16 0 w)) (sym c.is_none.ensures ∙ c.if-is_none.false))
