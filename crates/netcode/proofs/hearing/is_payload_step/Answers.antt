-- The step is a payload's, by each of its words.
use Rattle.netcode.proofs.Quickly.{never, opens_step}
use Rattle.netcode.proofs.hearing.is_payload_step.Goals as goal

pub returns-then-granted-eq0 : goal.returns-then-granted-eq0
returns-then-granted-eq0 c = never

pub returns-then-words-ne1 : goal.returns-then-words-ne1
returns-then-words-ne1 c = never

pub returns-then-words-ne5 : goal.returns-then-words-ne5
returns-then-words-ne5 c = never

pub returns : goal.returns
returns c =
    λ h.
    let a = c.args in
    opens_step a.words.now a.granted c.if-granted-eq0.false c.if-words-ne1.false c.if-words-ne5.false h
