-- The number of places that is tested is the one that set-up fixed.
use mathlib.Core.Path.{ap, ◌∙◌}
use Rattle.refusal.specs.Verdicts.{verdict}
use Rattle.server.specs.declared.SetUp.{SetUp}
use Rattle.server.specs.Ready.{slots_refusal}
use Rattle.netcode.specs.Laid.{set_up_in}
use Rattle.netcode.proofs.speaking.slots_refusal.Goals as goal

pub returns : goal.returns
unfolding set_up_in
returns c = c.slots_refusal.ensures ∙ ap (λ (s : SetUp). verdict (slots_refusal s c.args.slots)) c.places_only.ensures
