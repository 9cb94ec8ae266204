-- By its tests, else the ask.
use mathlib.Core.Path.{refl, sym}
use Rattle.refusal.proofs.Laws.{passed, refused_as, refused_some}
use Rattle.arrivals.proofs.Ways.{request_refused, request_asks}
use Rattle.arrivals.proofs.requests.read_request.Goals as goal

pub returns-in-Err : goal.returns-in-Err
returns-in-Err c =
    let a = c.args in
    request_refused a.server a.addr a.out a.datagram.now _ (refused_as _ _ c.request_refusal.ensures _ c.in-Err.is)
    (refused_some _ _ c.request_refusal.ensures _ c.in-Err.is) _ c.refused.ensures

pub returns : goal.returns
returns c =
    let a = c.args in
    request_asks a.server a.addr a.out a.datagram.now _ refl (sym (passed _ _ c.request_refusal.ensures _ c.in_default.is)) _ c.ask_token.ensures
