-- The answer to what the desk has kept.
use mathlib.Core.Path.{ap, ◌∙◌}
use Rattle.calls.proofs.Laid.{answer_challenge_laid}
use Rattle.calls.specs.Desk.{proof_opening_of}
use Rattle.calls.proofs.tokens.pump_answer_challenge.Goals as goal

pub returns : goal.returns
returns c =
    let a = c.args in
    answer_challenge_laid _ c.answer_challenge-challenged.result _ a.words.now a.token_data.now a.granted (c.proof_opening_of-opening.ensures ∙ ap proof_opening_of c.kept_on.ensures) c.answer_challenge-challenged.ensures c.challenged_desk.ensures
