-- The two words are what the sixteen bytes read as.
use mathlib.Core.Path.{ap₂}
use Prim.Native.Nat.{ℕ}
use Rattle.addresses.specs.Addresses.{address}
use Rattle.addresses.proofs.Address.new.Goals as goal

pub returns : goal.returns
returns c =
    let a = c.args in
    ap₂ (λ (low high : ℕ). address a.kind a.port low high) c.read_u64.ensures c.read_u64-2.ensures
