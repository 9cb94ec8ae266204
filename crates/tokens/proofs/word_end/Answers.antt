-- A space ends the word, and so does the line.
use Rattle.std.proofs.Common.{refl, arith, rules}
use Rattle.tokens.proofs.Spaced.{word_ends, word_goes_on, word_none}
use Rattle.tokens.proofs.word_end.Goals as goal

pub loop-i-init : goal.loop-i-init
loop-i-init c = (search rules, refl)

pub returns-then-line-i-eq32 : goal.returns-then-line-i-eq32
returns-then-line-i-eq32 c =
    let l = c.args.line.now in
    let i = c.loop-i.i in
    (omega (arith, word_ends l i (omega arith) c.if-line-i-eq32.true), omega arith)

pub loop-i-preserved : goal.loop-i-preserved
loop-i-preserved c =
    let l = c.args.line.now in
    let i = c.loop-i.i in
    (omega arith, omega (arith, word_goes_on l i (omega arith) c.if-line-i-eq32.false))

pub returns : goal.returns
returns c =
    let l = c.args.line.now in
    let i = c.loop-i.i in
    (omega (arith, word_none l i (omega arith)), omega arith)
