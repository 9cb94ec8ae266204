-- Each way out is what a number of the definition comes to.
use mathlib.Core.Path.{sym, ◌∙◌}
use native.Mathlib.Omega.{arith}
use Rattle.refusal.proofs.Laws.{passes, refuses_as}
use Rattle.replay_protection.specs.Ours.{width}
use Rattle.replay_protection.proofs.Ways.{refusal_over, refusal_spent, refusal_none}
use Rattle.replay_protection.proofs.refusal_by.Goals as goal

pub returns-then-sequence-gt-LAST : goal.returns-then-sequence-gt-LAST
returns-then-sequence-gt-LAST c =
    let a = c.args in
    refuses_as _ 5 (λ e. omega arith) (sym (refusal_over width a.most a.held a.sequence (omega arith)))

pub returns-then-is_spent : goal.returns-then-is_spent
returns-then-is_spent c =
    let a = c.args in
    refuses_as _ 6 (λ e. omega arith) (sym (refusal_spent width a.most a.held a.sequence (omega arith) (sym c.is_spent.ensures ∙ c.if-is_spent.true)))

pub returns : goal.returns
returns c =
    let a = c.args in
    passes _ (sym (refusal_none width a.most a.held a.sequence (omega arith) (sym c.is_spent.ensures ∙ c.if-is_spent.false)))
