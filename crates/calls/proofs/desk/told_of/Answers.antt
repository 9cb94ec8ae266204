-- Three runs, each right after the one before it.
use mathlib.Core.Path.{◌≡◌}
use lib.ListN.{length}
use Rattle.calls.proofs.Laid.{told_laid}
use borrow.Author.Rules.{rules}
use Rattle.calls.proofs.desk.told_of.Goals as goal

pub returns : goal.returns
returns c =
    let a = c.args.ask in
    let k : length a.key ≡ 32 = search rules in
    let n : length a.nonce ≡ 12 = search rules in
    let x : length a.additional ≡ 22 = search rules in
    told_laid a _ _ _ k n x c.copy.ensures c.copy-2.ensures c.copy-3.ensures
