-- What a way of decode takes along: a datagram that has a type has 18 bytes, and a key that is given is the one that is asked with.
use mathlib.Core.Path.{◌≡◌, refl}
use Prim.Native.Nat.{ℕ, ◌≤◌}
use native.Mathlib.Omega.{arith}
use mathlib.Core.List.{List}
use Rattle.std.specs.Prelude.{Option, Some, None, is_some, Result, Ok, Err}
use mathlib.Core.Bool.{true, false}
use lib.ListN.{length}
use lib.Dec.{ltb}
use borrow.Author.Tests.{ltb-false}
use Rattle.serialize.specs.Choice.{pick}
use Rattle.serialize.proofs.Choice.{by_test}
use Rattle.bodies.specs.declared.PacketType.{PacketType}
use Rattle.replay_protection.specs.declared.ReplayProtection.{ReplayProtection}
use Rattle.asks.specs.Asks.{key_bytes}
use Rattle.decode.specs.declared.Decoding.TheVariants.{Refused}
use Rattle.decode.specs.Decodes.{ended, type_at, start_at, by_start, decode_sealed}

-- a datagram that has a type has 18 bytes
pub typed_long : (d : List ℕ) (kind : PacketType) → type_at d ≡ Ok kind → 18 ≤ length d
unfolding type_at pick
typed_long d kind h =
    by_test (ltb (length d) 18)
    (λ e. absurd (let f : ◌≡◌ {A = Result PacketType ℕ} (Err 1) (Ok kind) = simp e at h in let z : ◌≡◌ {A = ℕ} 0 1 = cc in omega arith))
    (λ e. ltb-false (length d) 18 e)

-- a sealed datagram, with a key and without one
module _ (d : List ℕ) (kind : PacketType) (protocol : ℕ) where
  pub sealed_keyed : (key : Option (List ℕ)) (guard : Option ReplayProtection) → is_some key ≡ true
      → decode_sealed d kind protocol key guard ≡ by_start d kind protocol (key_bytes key) guard (start_at d)
  unfolding decode_sealed
  sealed_keyed (Some key) guard e = refl
  sealed_keyed None guard e = absurd (let z : ◌≡◌ {A = ℕ} 0 1 = cc in omega arith)

  pub sealed_keyless : (key : Option (List ℕ)) (guard : Option ReplayProtection) → is_some key ≡ false → decode_sealed d kind protocol key guard ≡ ended (Refused 3) guard
  unfolding decode_sealed
  sealed_keyless (Some key) guard e = absurd (let z : ◌≡◌ {A = ℕ} 0 1 = cc in omega arith)
  sealed_keyless None guard e = refl
