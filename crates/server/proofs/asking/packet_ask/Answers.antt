-- Nonce and additional data are copied into longer arrays of zeros.
use mathlib.Core.Path.{◌≡◌}
use native.Mathlib.Omega.{arith}
use lib.ListN.{length}
use Rattle.server.proofs.Pieces.{ask_laid}
use borrow.Author.Rules.{rules}
use Rattle.server.proofs.asking.packet_ask.Goals as goal

pub copy-requires : goal.copy-requires
copy-requires c = let k : length c.args.ask.nonce ≡ 12 = search rules in (omega arith, omega arith)

pub copy-requires-2 : goal.copy-requires-2
copy-requires-2 c = let k : length c.args.ask.additional ≡ 22 = search rules in (omega arith, omega arith)

pub returns : goal.returns
returns c = let a = c.args.ask in let n : length a.nonce ≡ 12 = search rules in let d : length a.additional ≡ 22 = search rules in ask_laid a _ _ _ c.buffer_of.ensures c.copy.ensures c.copy-2.ensures (omega arith) (omega arith)
