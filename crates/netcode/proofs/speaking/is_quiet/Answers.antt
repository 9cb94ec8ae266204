-- No ask is open, the slots fit, and the client that is found rests; or none is found.
use mathlib.Core.Path.{sym, ◌∙◌}
use mathlib.Core.Bool.{true≢false}
use lib.ListN.{get_or}
use Rattle.sending.proofs.Ways.{found_below}
use Rattle.refusal.proofs.Laws.{is_err_none}
use Rattle.netcode.proofs.Speaks.{fitting_shaped, quiet_found, quiet_missed}
use Rattle.netcode.proofs.speaking.is_quiet.Goals as goal

pub returns-then-words-ne0 : goal.returns-then-words-ne0
returns-then-words-ne0 c = λ e. absurd (true≢false (sym e))

pub returns-then-is_err : goal.returns-then-is_err
returns-then-is_err c = λ e. absurd (true≢false (sym e))

pub find_by_id-requires : goal.find_by_id-requires
find_by_id-requires c =
    let a = c.args in
    fitting_shaped a.words.now a.slots.now (is_err_none _ c.slots_refusal.result c.slots_refusal.ensures (sym c.is_err.ensures.value ∙ c.if-is_err.false))

pub rests-requires : goal.rests-requires
rests-requires c =
    let a = c.args in
    let z = fitting_shaped a.words.now a.slots.now (is_err_none _ c.slots_refusal.result c.slots_refusal.ensures (sym c.is_err.ensures.value ∙ c.if-is_err.false)) in
    (z, found_below a.slots.now (get_or a.words.now 0 0) a.client_id z _ c.find_by_id.ensures _ c.in-Some.is)

pub returns-in-Some : goal.returns-in-Some
returns-in-Some c =
    let a = c.args in
    λ e. quiet_found a.words.now a.client_id a.slots.now c.if-words-ne0.false (is_err_none _ c.slots_refusal.result c.slots_refusal.ensures (sym c.is_err.ensures.value ∙ c.if-is_err.false)) _
    c.find_by_id.ensures _ c.in-Some.is (c.rests.ensures e)

pub returns-in-None : goal.returns-in-None
returns-in-None c =
    let a = c.args in
    λ _. quiet_missed a.words.now a.client_id a.slots.now c.if-words-ne0.false (is_err_none _ c.slots_refusal.result c.slots_refusal.ensures (sym c.is_err.ensures.value ∙ c.if-is_err.false)) _ c.find_by_id.ensures c.in-None.is
