-- Either way is a case of the definition.
use mathlib.Core.Path.{sym, ◌∙◌}
use Rattle.replay_protection.specs.Ours.{width}
use Rattle.replay_protection.proofs.Ways.{spent_behind, spent_near}
use Rattle.replay_protection.proofs.is_spent.Goals as goal

pub returns-then-is_behind : goal.returns-then-is_behind
returns-then-is_behind c =
    let a = c.args in
    c.if-is_behind.true ∙ sym (spent_behind width a.most a.held a.sequence (sym c.is_behind.ensures ∙ c.if-is_behind.true))

pub returns-else-is_behind : goal.returns-else-is_behind
returns-else-is_behind c =
    let a = c.args in
    c.is_repeated.ensures ∙ sym (spent_near width a.most a.held a.sequence (sym c.is_behind.ensures ∙ c.if-is_behind.false))
