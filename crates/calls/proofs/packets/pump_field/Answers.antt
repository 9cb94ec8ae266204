-- It fits and is copied, or nothing is written.
use Rattle.calls.proofs.Laid.{field_kept, field_copied}
use Rattle.calls.proofs.packets.pump_field.Goals as goal

pub returns-then-out-n : goal.returns-then-out-n
returns-then-out-n c = field_kept _ _ c.args.out.now c.field_of-field.ensures c.if-out-n.true

pub returns : goal.returns
returns c = field_copied _ _ c.args.out.now _ c.field_of-field.ensures c.if-out-n.false c.copy.ensures
