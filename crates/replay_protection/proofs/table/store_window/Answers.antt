-- The highest and then the places: one run of words.
use mathlib.Core.Path.{◌≡◌, ap, ◌∙◌}
use Prim.Native.Nat.{◌+◌}
use native.Mathlib.Omega.{arith}
use lib.ListN.{length, set, length-set}
use Rattle.serialize.specs.Runs.{splice}
use Rattle.serialize.proofs.Lists.{part_whole, splice_cons}
use Rattle.replay_protection.specs.Stored.{put_window}
use Rattle.replay_protection.specs.Ours.{width, window_of}
use borrow.Author.Rules.{rules}
use Rattle.replay_protection.proofs.table.store_window.Goals as goal

pub copy-requires : goal.copy-requires
copy-requires c =
    let k : length c.args.window.received_packet ≡ width = search rules in
    (simp length-set (omega arith), omega arith)

pub shape_of-t : goal.shape_of-t
shape_of-t c = c.copy.auto.dst ∙ simp length-set

pub returns : goal.returns
unfolding put_window
returns c =
    let t = c.args.t.now in
    let at = c.args.at in
    let win = window_of c.args.window in
    let k : length win.ring ≡ width = search rules in
    c.copy.ensures
    ∙ ap (splice (set t at win.most) (at + 1)) (part_whole win.ring width k)
    ∙ splice_cons t at win.most win.ring (omega (arith, c.requires))
