-- Either way is a case of the definition.
use mathlib.Core.Path.{sym, ap, ◌∙◌}
use mathlib.Core.Bool.{not}
use borrow.Author.Tests.{eq-eqb}
use Rattle.replay_protection.proofs.Ways.{repeated_empty, repeated_held}
use Rattle.replay_protection.proofs.is_repeated.Goals as goal

pub returns-then-held-ne-EMPTY : goal.returns-then-held-ne-EMPTY
returns-then-held-ne-EMPTY c =
    let a = c.args in
    sym (repeated_held a.held a.sequence c.if-held-ne-EMPTY.true)

pub returns-else-held-ne-EMPTY : goal.returns-else-held-ne-EMPTY
returns-else-held-ne-EMPTY c =
    let a = c.args in
    ap not (eq-eqb _ _ c.if-held-ne-EMPTY.false) ∙ sym (repeated_empty a.held a.sequence c.if-held-ne-EMPTY.false)
