-- What the tests gave stops the call or lets the ask's stage decide; an answer that is not refused fits.
use Rattle.refusal.proofs.Laws.{passed, refused_as, refused_some}
use mathlib.Core.Path.{refl, sym}
use lib.ListN.{length}
use Rattle.server.specs.Ready.{both_refusal}
use Rattle.server.proofs.Inversions.{answer_fits, both_shaped}
use Rattle.seals.proofs.Ways.{seals_refused, seals_answers}
use Rattle.seals.proofs.answer_seal.Goals as goal

pub returns-in-Err : goal.returns-in-Err
returns-in-Err c =
    let a = c.args in
    seals_refused a.server a.slots.now a.pending.now a.granted a.held.now (length a.out.now)
    _ (refused_as _ _ c.seal_refusal.ensures _ c.in-Err.is) (refused_some _ _ c.seal_refusal.ensures _ c.in-Err.is) _ c.refused.ensures

pub by_stage-requires : goal.by_stage-requires
by_stage-requires c =
    let a = c.args in
    let s = c.args.server in
    let tables = both_refusal s.set (length a.slots.now) (length a.pending.now) in
    let k = answer_fits s.ask tables 3 s.set s.ask.datagram (length a.out.now) (sym (passed _ _ c.seal_refusal.ensures _ c.in_default.is)) in
    let b = both_shaped s.set a.slots.now a.pending.now k.tabled in
    (b.0, b.1, k.fitting)

pub returns : goal.returns
returns c =
    let a = c.args in
    seals_answers a.server a.slots.now a.pending.now a.granted a.held.now (length a.out.now)
    _ (passed _ _ c.seal_refusal.ensures _ c.in_default.is) refl _ _ _ c.by_stage.ensures
