-- The number so far, and what is left of the digits.
use Rattle.std.proofs.Common.{ℕ, ◌+◌, drop, sym, ap, ◌∙◌, arith}
use Rattle.tokens.specs.Text.{value_from}
use Rattle.tokens.proofs.Hex.{value_at, value_end}
use Rattle.tokens.proofs.value.Goals as goal

pub loop-c-preserved : goal.loop-c-preserved
loop-c-preserved g c =
    let w = c.args.word.now in
    let l = c.loop-c in
    ap (λ (n : ℕ). value_from g.row.BASE n (drop (l.c-index + 1) w)) c.with_digit-v.ensures ∙ sym (value_at g.row.BASE l.v w l.c-index (omega arith)) ∙ l.invariant

pub returns : goal.returns
returns g c =
    let l = c.loop-c in
    sym (value_end g.row.BASE l.v c.args.word.now l.c-index (omega arith)) ∙ l.invariant
