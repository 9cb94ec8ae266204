-- What a place's mark says, by the one test of it that the definitions make.
use mathlib.Core.Path.{◌≡◌, sym, ap, ◌∙◌}
use mathlib.Core.Bool.{Bool, true, false, not, ◌&&◌, and-true, and-false}
use mathlib.Core.List.{List}
use Prim.Native.Nat.{ℕ}
use lib.ListN.{get_or}
use borrow.Author.Tests.{eq-eqb, ne_eqb}
use Rattle.serialize.specs.Runs.{part, alike}
use Rattle.entries.specs.Layout.{used_at, mac_at, match_at}
use Rattle.entries.specs.Finds.{empty_at}

module _ (t : List ℕ) (i : ℕ) where
  pub empty_place : get_or t i 0 ≡ 0 → used_at t i ≡ false
  empty_place e = ap not (eq-eqb (get_or t i 0) 0 e)

  pub used_place : (get_or t i 0 ≡ 0 → ⊥) → used_at t i ≡ true
  used_place d = ap not (ne_eqb (get_or t i 0) 0 d)

  -- marks other than 1 too
  pub any_mark_used : (v : ℕ) → get_or t i 0 ≡ v → (v ≡ 0 → ⊥) → used_at t i ≡ true
  any_mark_used v e d = used_place (λ z. d (sym e ∙ z))

  -- as the search for an empty place asks it
  pub empty_found : get_or t i 0 ≡ 0 → empty_at t i ≡ true
  empty_found e = ap not (empty_place e)

  pub empty_missed : (get_or t i 0 ≡ 0 → ⊥) → empty_at t i ≡ false
  empty_missed d = ap not (used_place d)

module _ (t : List ℕ) (k : ℕ) (mac : List ℕ) (i : ℕ) where
  -- a body left in an emptied place is not looked at
  pub empty_never_matches : get_or t i 0 ≡ 0 → match_at t k mac i ≡ false
  unfolding match_at
  empty_never_matches e = ap (λ (b : Bool). b && alike (mac_at t k i) (part mac 0 16)) (empty_place t i e)

  pub used_match : (get_or t i 0 ≡ 0 → ⊥) → match_at t k mac i ≡ alike (mac_at t k i) (part mac 0 16)
  unfolding match_at
  used_match d = ap (λ (b : Bool). b && alike (mac_at t k i) (part mac 0 16)) (used_place t i d)

  -- as the code asks it: the bytes first, and then the mark
  pub other_bytes : alike (mac_at t k i) (part mac 0 16) ≡ false → false ≡ match_at t k mac i
  unfolding match_at
  other_bytes e = sym (ap (λ (b : Bool). used_at t i && b) e ∙ and-false (used_at t i))

  pub same_bytes_match : alike (mac_at t k i) (part mac 0 16) ≡ true → used_at t i ≡ match_at t k mac i
  unfolding match_at
  same_bytes_match e = sym (ap (λ (b : Bool). used_at t i && b) e ∙ and-true (used_at t i))
