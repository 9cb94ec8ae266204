-- Each way out is a case of the definition.
use mathlib.Core.Path.{◌∙◌}
use Prim.Native.Nat.{◌+◌, ◌≤◌}
use borrow.Author.Tests.{ltb-false}
use lib.ListN.{length}
use Rattle.serialize.specs.Choice.{pick}
use Rattle.decode.specs.Challenges.{decode_challenge}
use Rattle.asks.proofs.Lent.{told}
use borrow.Author.Rules.{rules}
use Rattle.decode.proofs.token.decode_challenge.Goals as goal

pub returns-then-past : goal.returns-then-past
unfolding decode_challenge pick
returns-then-past c = c.unproved.ensures ∙ simp (told c.past.ensures c.if-past.true)

pub overflow_add-at : goal.overflow_add-at
overflow_add-at c =
    let s = c.args in
    let l : s.at + 300 ≤ length s.token_data.now = ltb-false _ _ (told c.past.ensures c.if-past.false) in
    search rules

pub returns : goal.returns
unfolding decode_challenge pick
returns c = simp (c.token_ask.ensures, c.no_token.ensures, told c.past.ensures c.if-past.false)
