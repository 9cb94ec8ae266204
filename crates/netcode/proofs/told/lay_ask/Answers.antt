-- Key, nonce and additional data, each copied to its place.
use mathlib.Core.Path.{◌≡◌}
use lib.ListN.{length}
use native.Mathlib.Omega.{arith}
use Rattle.netcode.specs.Told.{ask_bytes}
use borrow.Author.Rules.{rules}
use Rattle.netcode.proofs.told.lay_ask.Goals as goal

pub copy-requires : goal.copy-requires
copy-requires c = let k : length c.args.ask.key ≡ 32 = search rules in let n : length c.args.told.now ≡ 85 = search rules in (omega arith, omega arith)

pub copy-requires-2 : goal.copy-requires-2
copy-requires-2 c = let k : length c.args.ask.nonce ≡ 24 = search rules in let n : length c.copy.new.dst ≡ 85 = search rules in (omega arith, omega arith)

pub copy-requires-3 : goal.copy-requires-3
copy-requires-3 c = let k : length c.args.ask.additional ≡ 29 = search rules in let n : length c.copy-2.new.dst ≡ 85 = search rules in (omega arith, omega arith)

pub returns : goal.returns
unfolding ask_bytes
returns c = simp (c.copy-3.ensures, c.copy-2.ensures, c.copy.ensures)
