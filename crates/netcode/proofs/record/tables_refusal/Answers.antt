-- The test reads only the numbers of places, which are the record's.
use mathlib.Core.Path.{ap, ◌∙◌}
use Rattle.refusal.specs.Verdicts.{verdict}
use Rattle.server.specs.declared.SetUp.{SetUp}
use Rattle.server.specs.Ready.{both_refusal}
use Rattle.netcode.specs.Laid.{set_up_in}
use Rattle.netcode.proofs.record.tables_refusal.Goals as goal

pub returns : goal.returns
unfolding set_up_in
returns c =
    let a = c.args in
    c.both_tables_refusal.ensures ∙ ap (λ (s : SetUp). verdict (both_refusal s a.slots a.pending)) c.places_only-set.ensures
