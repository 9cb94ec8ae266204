-- The first bytes of the eight are the sequence in that many bytes.
use native.Mathlib.Omega.{arith}
use Rattle.prefix.proofs.Fewest.{fewest_le}
use Rattle.prefix.proofs.Wire.{scratch_copied}
use borrow.Author.Rules.{rules}
use Rattle.prefix.proofs.write_sequence.Goals as goal

pub copy-requires : goal.copy-requires
copy-requires c = omega (arith, fewest_le c.args.seq (search rules), c.requires)

pub returns : goal.returns
returns c =
    let a = c.args in
    let n = c.sequence_bytes_required-len.ensures in
    let w = c.write_u64.ensures in
    (n, scratch_copied a.out.now _ _ a.at a.seq _ (search rules) n w c.copy.ensures)
