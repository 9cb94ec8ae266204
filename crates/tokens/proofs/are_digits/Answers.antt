-- What is left decides.
use Rattle.std.proofs.Common.{◌+◌, Bool, drop, sym, ap, ◌∙◌, arith}
use Rattle.serialize.specs.Runs.{both}
use Rattle.tokens.specs.Text.{all_below}
use Rattle.tokens.proofs.Hex.{below_at, below_end}
use Rattle.tokens.proofs.are_digits.Goals as goal

pub returns-then-not-is_digit : goal.returns-then-not-is_digit
returns-then-not-is_digit g c =
    let w = c.args.word.now in
    let i = c.loop-c.c-index in
    sym (sym c.loop-c.invariant ∙ below_at g.row.BASE w i (omega arith) ∙ ap (λ (b : Bool). both b (all_below g.row.BASE (drop (i + 1) w))) (sym c.is_digit.ensures ∙ c.if-not-is_digit.true))

pub loop-c-preserved : goal.loop-c-preserved
loop-c-preserved g c =
    let w = c.args.word.now in
    let i = c.loop-c.c-index in
    sym (below_at g.row.BASE w i (omega arith) ∙ ap (λ (b : Bool). both b (all_below g.row.BASE (drop (i + 1) w))) (sym c.is_digit.ensures ∙ c.if-not-is_digit.false)) ∙ c.loop-c.invariant

pub returns : goal.returns
returns g c = sym (sym c.loop-c.invariant ∙ below_end g.row.BASE c.args.word.now c.loop-c.c-index (omega arith))
