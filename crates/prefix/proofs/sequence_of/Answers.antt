-- The bytes after the len that were copied are zeros, so they add nothing.
use mathlib.Core.Path.{ap, ◌∙◌}
use native.Mathlib.Omega.{arith}
use mathlib.Core.List.{List}
use Prim.Native.Nat.{ℕ, ◌≤◌}
use lib.ListN.{length}
use Rattle.serialize.specs.Runs.{part}
use Rattle.serialize.specs.Le.{of_le}
use Rattle.serialize.proofs.Lists.{length_part}
use Rattle.prefix.proofs.Wire.{scratch_reads}
use Rattle.prefix.proofs.sequence_of.Goals as goal

pub returns : goal.returns
returns c =
    let a = c.args in
    let vs = part a.source.now a.at a.len in
    let n : length vs ≤ 8 = omega (arith, c.requires, length_part a.source.now a.at a.len c.requires.1) in
    c.read_u64.ensures ∙ ap (λ (t : List ℕ). of_le (part t 0 8)) c.copy.ensures ∙ scratch_reads vs n
