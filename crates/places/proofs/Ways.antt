-- A place without the key is not found, and of one with it the mark decides; a table that passes the three tests of its length has as many
-- whole places.
use mathlib.Core.Path.{◌≡◌, sym, ap, ◌∙◌}
use mathlib.Core.Bool.{Bool, true, false, not, ◌&&◌, and-true, and-false}
use Prim.Native.Nat.{ℕ, ◌%◌, ◌≤◌}
use native.Mathlib.Omega.{arith}
use mathlib.Core.List.{List}
use lib.ListN.{length, get_or}
use lib.Dec.{eqb, ltb}
use borrow.Author.Tests.{eq-eqb, ne_eqb, eqb-true, ltb-false}
use Rattle.serialize.specs.Choice.{pick}
use Rattle.serialize.proofs.Choice.{by_test}
use Rattle.addresses.specs.Addresses.{has_words}
use Rattle.places.specs.Layout.{Shaped, place_words, count, places_refusal, used_at, id_of, address_at}
use Rattle.places.specs.Finds.{has_address, has_id}

-- marks other than 1 are used
pub marked_used : (t : List ℕ) (i : ℕ) → (get_or t i 0 ≡ 0 → ⊥) → used_at t i ≡ true
marked_used t i n = ap not (ne_eqb (get_or t i 0) 0 n)

pub empty_unused : (t : List ℕ) (i : ℕ) → get_or t i 0 ≡ 0 → used_at t i ≡ false
empty_unused t i e = ap not (eq-eqb (get_or t i 0) 0 e)

-- a place without the key, and one with it, of which the mark decides
module _ (t : List ℕ) (n i : ℕ) where
  pub id_other : (id : ℕ) → (id_of t n i ≡ id → ⊥) → false ≡ has_id t n id i
  unfolding has_id
  id_other id e = sym (ap (λ (b : Bool). used_at t i && b) (ne_eqb (id_of t n i) id e) ∙ and-false (used_at t i))

  pub id_here : (id : ℕ) → id_of t n i ≡ id → used_at t i ≡ has_id t n id i
  unfolding has_id
  id_here id e = sym (ap (λ (b : Bool). used_at t i && b) (eq-eqb (id_of t n i) id e) ∙ and-true (used_at t i))

  pub address_other : (first low high : ℕ) → has_words t (address_at n i) first low high ≡ false → false ≡ has_address t n first low high i
  unfolding has_address
  address_other first low high e = sym (ap (λ (b : Bool). used_at t i && b) e ∙ and-false (used_at t i))

  pub address_here : (first low high : ℕ) → has_words t (address_at n i) first low high ≡ true → used_at t i ≡ has_address t n first low high i
  unfolding has_address
  address_here first low high e = sym (ap (λ (b : Bool). used_at t i && b) e ∙ and-true (used_at t i))

-- ---- a table that was not refused has the shape that the rest asks for

pub taken_shaped : (t : List ℕ) (most : ℕ) → most ≤ 4096 → places_refusal t most ≡ 0 → Shaped t (count t)
unfolding places_refusal pick
taken_shaped t most few e =
    by_test (eqb (length t % place_words) 0)
    (λ a.
    let q : length t % place_words ≡ 0 = eqb-true (length t % place_words) 0 a in
    by_test (eqb (count t) 0)
    (λ b. let z : 23 ≡ 0 = rw (a, b) at e in absurd (omega arith))
    (λ b.
    by_test (ltb most (count t))
    (λ c. let z : 23 ≡ 0 = rw (a, b, c) at e in absurd (omega arith))
    (λ c. let l : count t ≤ most = ltb-false most (count t) c in record { few = omega arith; long = omega arith })))
    (λ a. let z : 23 ≡ 0 = rw a at e in absurd (omega arith))
