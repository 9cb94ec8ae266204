-- Each way out is a case of the definition.
use mathlib.Core.Path.{ap₂, ◌∙◌}
use native.Mathlib.Omega.{arith}
use lib.ListN.{length}
use Rattle.serialize.specs.Choice.{pick}
use Rattle.decode.specs.Decodes.{ended, answer_opened}
use Rattle.asks.proofs.Lent.{told, like_means}
use Rattle.decode.proofs.reading.answer_opened.Goals as goal

pub returns-then-unlike : goal.returns-then-unlike
unfolding answer_opened pick
returns-then-unlike c = simp (told c.unlike.ensures c.if-unlike.true)

pub overflow_sub-len : goal.overflow_sub-len
overflow_sub-len c =
    let s = c.args in
    let l = like_means s.opening.start 16 s.opening.len (length s.datagram.now) (told c.unlike.ensures c.if-unlike.false) in
    omega arith

pub read_opened-requires : goal.read_opened-requires
read_opened-requires c =
    let s = c.args in
    let l = like_means s.opening.start 16 s.opening.len (length s.datagram.now) (told c.unlike.ensures c.if-unlike.false) in
    (omega arith, omega arith)

pub returns-then-granted : goal.returns-then-granted
unfolding answer_opened pick
returns-then-granted c = ap₂ ended c.read_opened.ensures c.guard_accepts.ensures ∙ simp (told c.unlike.ensures c.if-unlike.false, c.if-granted.true)

pub returns : goal.returns
unfolding answer_opened pick
returns c = simp (told c.unlike.ensures c.if-unlike.false, c.if-granted.false)
