-- The bytes so far stand from index at on.
use Rattle.std.proofs.Common.{sym, ◌∙◌, arith}
use Rattle.serialize.proofs.Loops.{fill_start, fill_turn, fill_end}
use Rattle.tokens.specs.Text.{unhex}
use Rattle.tokens.proofs.Hex.{length_unhex, unhex_at}
use Rattle.tokens.proofs.fill.Goals as goal

pub loop-k-init : goal.loop-k-init
loop-k-init c =
    let a = c.args in
    fill_start a.out.now a.at (unhex a.n a.word.now) a.n

pub loop-k-preserved : goal.loop-k-preserved
loop-k-preserved c =
    let a = c.args in
    let p = c.requires in
    let l = c.loop-k in
    fill_turn
    a.out.now
    a.at
    (unhex a.n a.word.now)
    a.n
    (length_unhex a.n a.word.now)
    l.out
    l.k
    l.invariant
    c.pair.result
    (c.pair.ensures ∙ sym (unhex_at a.n l.k a.word.now (omega arith)))
    p.0
    (omega arith)

pub returns : goal.returns
returns c =
    let a = c.args in
    let l = c.loop-k in
    fill_end a.out.now a.at (unhex a.n a.word.now) a.n (length_unhex a.n a.word.now) l.out l.k l.invariant (omega arith)
