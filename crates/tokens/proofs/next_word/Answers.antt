-- One past the space, or the line's end.
use Rattle.std.proofs.Common.{sym, arith, rules}
use Rattle.tokens.proofs.Spaced.{after_at, after_end}
use Rattle.tokens.proofs.next_word.Goals as goal

pub returns-then-end-line : goal.returns-then-end-line
returns-then-end-line c =
    let a = c.args in
    (sym (after_at a.line.now a.at c.word_end-end.result c.word_end-end.ensures.0), search rules)

pub returns : goal.returns
returns c =
    let a = c.args in
    (after_end a.line.now a.at c.word_end-end.result c.word_end-end.ensures.0 (omega arith), c.word_end-end.ensures.1)
