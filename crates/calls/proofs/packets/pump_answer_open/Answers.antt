-- The answer to what the desk has kept, and the window that it leaves: where nothing can move it, the words stay.
use mathlib.Core.Path.{ap, ◌∙◌}
use mathlib.Core.Bool.{Bool}
use native.Mathlib.Omega.{arith}
use Rattle.std.specs.Prelude.{◌&&◌, is_some, Option}
use Rattle.decode.specs.declared.Opening.{Opening}
use Rattle.calls.proofs.Laid.{answer_open_laid}
use Rattle.calls.proofs.Unguarded.{answer_left}
use Rattle.calls.specs.Desk.{kept_on, opening_of}
use Rattle.calls.specs.Packets.{answer_open_call}
use Rattle.calls.proofs.packets.pump_answer_open.Goals as goal

pub returns : goal.returns
returns c =
    let a = c.args in
    let o = c.opening_of-opening.ensures ∙ ap opening_of c.kept_on.ensures in
    answer_open_laid _ _ c.answer_open-decoded.result _ _ a.words.now a.datagram.now c.is_moving-guarded.result a.window.now a.granted o c.guard_of.ensures c.answer_open-decoded.ensures c.decoded_desk.ensures c.put_back.ensures
    ∙ ap (λ (b : Bool). answer_open_call a.words.now a.datagram.now b a.window.now a.granted) (c.is_moving-guarded.ensures ∙ ap (λ (x : Option Opening). a.guarded && (a.granted && is_some x)) o)
    ∙ answer_left a.window.now (omega (arith, c.fits-window)) (opening_of (kept_on a.words.now)) a.datagram.now a.guarded a.granted
