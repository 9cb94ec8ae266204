-- Three stores in a row are one run of three words.
use native.Mathlib.Omega.{arith}
use lib.ListN.{length-set}
use Rattle.records.proofs.Pieces.{address_written}
use Rattle.records.proofs.whole.put_address.Goals as goal

pub bounds-t-at-2 : goal.bounds-t-at-2
bounds-t-at-2 c = simp length-set (omega arith)

pub bounds-t-at-3 : goal.bounds-t-at-3
bounds-t-at-3 c = simp length-set (omega arith)

pub returns : goal.returns
returns c = address_written c.args.t.now c.args.at c.args.addr c.first_word.ensures c.requires
