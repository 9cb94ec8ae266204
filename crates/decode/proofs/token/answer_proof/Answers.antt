-- Each way out is a case of the definition.
use mathlib.Core.Path.{◌∙◌}
use native.Mathlib.Omega.{arith}
use lib.ListN.{length}
use Rattle.serialize.specs.Choice.{pick}
use Rattle.decode.specs.Challenges.{answer_proof}
use Rattle.asks.proofs.Lent.{told, like_means}
use Rattle.decode.proofs.token.answer_proof.Goals as goal

pub returns-then-unlike : goal.returns-then-unlike
unfolding answer_proof pick
returns-then-unlike c = c.unproved.ensures ∙ simp (told c.unlike.ensures c.if-unlike.true)

pub read-requires : goal.read-requires
read-requires c =
    let s = c.args in
    let l = like_means s.opening.at 300 s.opening.len (length s.token_data.now) (told c.unlike.ensures c.if-unlike.false) in
    omega arith

pub returns-then-granted : goal.returns-then-granted
unfolding answer_proof pick
returns-then-granted c = simp (c.no_ask.ensures, c.read.ensures, told c.unlike.ensures c.if-unlike.false, c.if-granted.true)

pub returns : goal.returns
unfolding answer_proof pick
returns c = c.unproved-2.ensures ∙ simp (told c.unlike.ensures c.if-unlike.false, c.if-granted.false)
