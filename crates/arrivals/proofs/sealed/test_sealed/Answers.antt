-- By the window, then by the length, else the ask.
use mathlib.Core.Path.{refl, sym}
use Rattle.refusal.proofs.Laws.{passed, refused_as, refused_some}
use Rattle.arrivals.proofs.Ways.{window_refuses, tag_cut, sealed_asks}
use Rattle.arrivals.proofs.sealed.test_sealed.Goals as goal

pub returns-in-Err : goal.returns-in-Err
returns-in-Err c =
    let a = c.args in
    window_refuses a.server a.table.now a.n a.connected a.i a.kind a.sequence a.start a.out a.datagram.now
    _ (refused_as _ _ c.window_refusal.ensures _ c.in-Err.is) (refused_some _ _ c.window_refusal.ensures _ c.in-Err.is) _ c.refused.ensures

pub returns-then-past : goal.returns-then-past
returns-then-past c =
    let a = c.args in
    tag_cut a.server a.table.now a.n a.connected a.i a.kind a.sequence a.start a.out a.datagram.now
    _ refl (sym (passed _ _ c.window_refusal.ensures _ c.in_default.is)) _ c.past.ensures c.if-past.true _ c.refused-then-past.ensures

pub returns : goal.returns
returns c =
    let a = c.args in
    sealed_asks a.server a.table.now a.n a.connected a.i a.kind a.sequence a.start a.out a.datagram.now
    _ refl (sym (passed _ _ c.window_refusal.ensures _ c.in_default.is)) _ c.past.ensures c.if-past.false _ c.ask_open.ensures
