-- `fewest` is what it says: the search over 0 to 8 finds the least n with v < 256 ^ n, and powers of 256 only grow.
use Rattle.std.specs.Prelude.{Option, Some, None}
use mathlib.Core.Path.{◌≡◌, refl}
use Prim.Native.Nat.{ℕ, suc, ◌^◌, ◌≤◌, ◌<◌}
use native.Mathlib.Nat.{pow-le-pow_right, lt_of_not-le, le_antisymm}
use native.Mathlib.Omega.{arith}
use borrow.Author.Tests.{ltb-true, ltb-false}
use lib.Dec.{ltb}
use Rattle.serialize.specs.Search.{first_from}
use Rattle.serialize.proofs.Search.{found_lowest, found_none}
use Rattle.prefix.specs.Head.{fewest, Fewest, place_or9}

pub pow256_mono : {m n : ℕ} → m ≤ n → 256 ^ m ≤ 256 ^ n
pow256_mono h = pow-le-pow_right (omega arith) h

-- a number that n bytes hold, and that fewer than k bytes do not
more_bytes : (v k m : ℕ) → (m < k → 256 ^ m ≤ v) → v < 256 ^ m → k ≤ m
more_bytes v k m none h =
    let l : k < suc m = lt_of_not-le (λ s. let n : 256 ^ m ≤ v = none s in omega arith) in
    omega arith

means : (v : ℕ) → v < 256 ^ 8 → (f : Option ℕ) → first_from (λ n. ltb v (256 ^ n)) 0 9 ≡ f → Fewest v (place_or9 f)
means v h (Some j) e =
    let w = found_lowest (λ n. ltb v (256 ^ n)) 0 9 j e in
    record {
      holds = ltb-true v (256 ^ j) w.holds;
      least = λ m. more_bytes v j m (λ s. ltb-false v (256 ^ m) (w.none m (omega arith) s));
    }
means v h None e =
    let n : 256 ^ 8 ≤ v = ltb-false v (256 ^ 8) (found_none (λ n. ltb v (256 ^ n)) 0 9 e 8 (omega arith) (omega arith)) in
    absurd (omega arith)

-- any number of 64 bits is held by `fewest` bytes, and by no fewer
pub fewest_means : (v : ℕ) → v < 256 ^ 8 → Fewest v (fewest v)
unfolding fewest
fewest_means v h = means v h (first_from (λ n. ltb v (256 ^ n)) 0 9) refl

pub fewest_le : (v : ℕ) → v < 256 ^ 8 → fewest v ≤ 8
fewest_le v h = (fewest_means v h).least 8 h

-- and it is the only such count
pub fewest_only : (v n : ℕ) → v < 256 ^ 8 → Fewest v n → n ≡ fewest v
fewest_only v n h w = le_antisymm (w.least (fewest v) (fewest_means v h).holds) ((fewest_means v h).least n w.holds)

-- a walk from the top: the first k bytes do not hold v, and one more does
pub fewest_walk : (v k : ℕ) → v < 256 ^ 8 → 256 ^ k ≤ v → v < 256 ^ suc k → suc k ≡ fewest v
fewest_walk v k h low high =
    fewest_only v (suc k) h (record {
      holds = high;
      least = λ m. more_bytes v (suc k) m (λ s. let p : 256 ^ m ≤ 256 ^ k = pow256_mono (omega arith) in omega arith);
    })

pub fewest_none : (v : ℕ) → v < 256 ^ 0 → 0 ≡ fewest v
fewest_none v h = fewest_only v 0 (omega arith) (record { holds = h; least = λ m s. omega arith })
