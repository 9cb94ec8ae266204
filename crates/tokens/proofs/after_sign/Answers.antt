-- What stands left of the index has no sign.
use Rattle.std.proofs.Common.{refl, arith, rules}
use Rattle.tokens.proofs.Spaced.{sign_here, sign_later, sign_nowhere}
use Rattle.tokens.proofs.after_sign.Goals as goal

pub loop-i-init : goal.loop-i-init
loop-i-init c = (refl, search rules, omega arith)

pub returns-then-line-i-eq61 : goal.returns-then-line-i-eq61
returns-then-line-i-eq61 c =
    let l = c.args.line.now in
    let i = c.loop-i.i in
    (omega (arith, c.loop-i.invariant.2, sign_here l i (omega arith) c.if-line-i-eq61.true), omega arith)

pub loop-i-preserved : goal.loop-i-preserved
loop-i-preserved c =
    let l = c.args.line.now in
    let i = c.loop-i.i in
    (refl, omega arith, omega (arith, c.loop-i.invariant.2, sign_later l i (omega arith) c.if-line-i-eq61.false))

pub returns : goal.returns
returns c =
    let l = c.args.line.now in
    let i = c.loop-i.i in
    (omega (arith, c.loop-i.invariant.2, sign_nowhere l i (omega arith)), omega arith)
