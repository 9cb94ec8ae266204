-- The move and the stores are the definition's, in its order.
use Rattle.seals.proofs.Ways.{record_connects}
use Rattle.seals.proofs.waits.connect.Goals as goal

pub returns : goal.returns
returns c =
    let a = c.args in
    let m = c.move_record.ensures in (
      record_connects a.slots.now a.n a.i a.pending.now a.m a.j a.held.now a.sequence a.time
          _ m.0 _ c.held_user_data-user_data.ensures _ c.set_user_data.ensures _ c.sent_under.ensures,
      m.1,
    )
