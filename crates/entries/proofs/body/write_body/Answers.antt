-- The four runs lie right after each other, so they are one run.
use mathlib.Core.Path.{◌≡◌}
use lib.ListN.{length}
use Rattle.entries.proofs.Ways.{body_written}
use borrow.Author.Rules.{rules}
use Rattle.entries.proofs.body.write_body.Goals as goal

pub returns : goal.returns
returns c =
    let k : length c.args.entry.mac ≡ 16 = search rules in
    body_written c.args.entries.now c.write_u64.new.dst c.write_u32.new.dst c.write_address.new.entries c.copy.new.dst
    c.args.at
    c.args.entry
    c.requires
    k
    c.write_u64.ensures
    c.write_u32.ensures
    c.write_address.ensures
    c.copy.ensures
