-- The type has its number, and a yes is 1.
use Rattle.netcode.proofs.Words.{laid_bit}
use Rattle.netcode.proofs.stages.packet_words.Goals as goal

pub returns : goal.returns
returns c = simp (laid_bit c.args.connected c.from.result c.from.ensures, c.to_u8-number.ensures)
