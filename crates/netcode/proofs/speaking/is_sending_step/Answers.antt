-- The host said yes, and word 11 is the step's number.
use mathlib.Core.Path.{sym}
use mathlib.Core.Bool.{true≢false}
use borrow.Author.Tests.{eqb-true}
use Rattle.netcode.proofs.Speaks.{step_seals}
use Rattle.netcode.proofs.speaking.is_sending_step.Goals as goal

pub returns-then-granted-eq0 : goal.returns-then-granted-eq0
returns-then-granted-eq0 c = λ e. absurd (true≢false (sym e))

pub returns : goal.returns
returns c =
    let a = c.args in
    λ e. step_seals a.words.now a.granted c.if-granted-eq0.false (eqb-true _ _ e)
