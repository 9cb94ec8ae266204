-- The four fields are the numbers that were read.
use mathlib.Core.Path.{refl}
use Rattle.entries.proofs.Ways.{address_fields}
use Rattle.entries.proofs.body.address_at.Goals as goal

pub returns : goal.returns
returns c = address_fields refl c.read_u16.ensures c.read_u64.ensures c.read_u64-2.ensures
