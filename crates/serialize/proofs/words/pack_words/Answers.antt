-- After i turns the first i words are written.
use lib.ListN.{drop}
use Rattle.serialize.specs.Le.{words}
use Rattle.serialize.proofs.Loops.{fill_start, pack_turn, pack_end}
use Rattle.serialize.proofs.words.pack_words.Goals as goal

pub loop-i-init : goal.loop-i-init
loop-i-init c =
    let a = c.args in
    fill_start a.dst.now a.at (words a.n (drop a.from a.src.now)) a.n

pub loop-i-preserved : goal.loop-i-preserved
loop-i-preserved c =
    let a = c.args in
    let l = c.loop-i in
    pack_turn a.dst.now a.at a.src.now a.from a.n l.dst l.i l.invariant _ c.read_u64.ensures c.requires.0 c.loop-i-test.true

pub shape_of-dst : goal.shape_of-dst
shape_of-dst c = c.loop-i.invariant.2

pub returns : goal.returns
returns c =
    let a = c.args in
    let l = c.loop-i in
    pack_end a.dst.now a.at a.src.now a.from a.n l.dst l.i l.invariant c.loop-i-test.false
