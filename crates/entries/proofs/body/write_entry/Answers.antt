-- A store, the body and a store, as the definition has them.
use mathlib.Core.Path.{ap}
use mathlib.Core.List.{List}
use Prim.Native.Nat.{ℕ}
use native.Mathlib.Omega.{arith}
use lib.ListN.{set, length-set}
use Rattle.entries.specs.Layout.{written}
use Rattle.entries.proofs.body.write_entry.Goals as goal

pub write_body-requires : goal.write_body-requires
write_body-requires c =
    let a = c.args in
    omega (arith, length-set a.entries.now a.i 0)

pub bounds-entries-i-2 : goal.bounds-entries-i-2
bounds-entries-i-2 c =
    let a = c.args in
    omega (arith, length-set a.entries.now a.i 0)

pub shape_of-entries : goal.shape_of-entries
shape_of-entries c =
    let a = c.args in
    omega (arith, length-set a.entries.now a.i 0, length-set c.write_body.new.entries a.i 1)

pub returns : goal.returns
unfolding written
returns c = ap (λ (t : List ℕ). set t c.args.i 1) c.write_body.ensures
