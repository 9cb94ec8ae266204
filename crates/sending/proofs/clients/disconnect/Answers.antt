-- The step is a slot's end.
use mathlib.Core.Path.{refl}
use mathlib.Core.Bool.{true}
use Prim.Native.Nat.{ℕ}
use mathlib.Core.List.{List}
use Rattle.serialize.specs.Choice.{pick}
use Rattle.sending.specs.Packets.{ending}
use Rattle.sending.proofs.Ways.{slot_away, step_told, attend_decides}
use Rattle.sending.proofs.clients.disconnect.Goals as goal

pub returns : goal.returns
unfolding pick
returns c =
    let a = c.args in
    let e = c.attend.ensures in
    attend_decides a.server a.slots.now a.client_id a.out.now _ true e.unready e.missed
    (λ z i f.
    let d = e.found z i f in
    slot_away a.server a.client_id a.slots.now i true a.out.now _ refl
    (step_told _ (λ (x y : List ℕ). ending a.server a.client_id x i y) _ _ _ _ _ _ _ _ d.slots_before d.out_before d.slots_after d.out_after d.met.1))
