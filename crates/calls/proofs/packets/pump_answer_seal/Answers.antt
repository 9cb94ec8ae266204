-- The answer to what the desk has kept.
use mathlib.Core.Path.{ap, ◌∙◌}
use lib.ListN.{length}
use Rattle.calls.specs.Desk.{encoded_desk, sealing_of}
use Rattle.std.specs.Prelude.{Option}
use Rattle.encode.specs.declared.Sealing.{Sealing}
use Rattle.encode.specs.Encodes.{answer_seal}
use Rattle.calls.proofs.packets.pump_answer_seal.Goals as goal

pub returns : goal.returns
returns c =
    let a = c.args in
    c.encoded_desk.ensures ∙ ap encoded_desk (c.answer_seal-encoded.ensures ∙ ap (λ (s : Option Sealing). answer_seal s (length a.out.now) a.granted) (c.sealing_of-sealing.ensures ∙ ap sealing_of c.kept_on.ensures))
