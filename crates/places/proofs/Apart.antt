-- Used keys stay distinct: a write to one place leaves the marks and keys of the others, so two used places with one key would be the place
-- that was written and another, and the premise excludes those.
use mathlib.Core.Path.{◌≡◌, sym, ap, ◌∙◌}
use mathlib.Core.Bool.{true, false}
use Prim.Native.Nat.{ℕ, ◌<◌}
use native.Mathlib.Omega.{arith}
use mathlib.Core.List.{List}
use lib.ListN.{get_or}
use lib.Dec.{eqb}
use borrow.Author.Tests.{eqb-true, eqb-false}
use Rattle.serialize.proofs.Choice.{by_test}
use Rattle.places.specs.Layout.{used_mark, used_at}
use Rattle.places.specs.Columns.{Field, Within, field_of, mark, id, addr, Elsewhere, SameColumns}
use Rattle.places.specs.Keys.{Keyed, NoneOf, Distinct}
use Rattle.places.proofs.Searches.{true_false, word_of_lem}
use Rattle.places.proofs.Same.{same_mark}

module _ (n i : ℕ) (t u : List ℕ) (else : Elsewhere n i t u) where
  pub mark_kept : (j : ℕ) → j < n → (i ≡ j → ⊥) → get_or u j 0 ≡ get_or t j 0
  mark_kept j h d =
      sym (word_of_lem u n j mark 0 j (omega arith) (omega arith)) ∙ ap (λ (l : List ℕ). get_or l 0 0) (else.same j h d mark (omega arith)) ∙ word_of_lem t n j mark 0 j (omega arith) (omega arith)

  pub used_kept : (j : ℕ) → j < n → (i ≡ j → ⊥) → used_at u j ≡ used_at t j
  used_kept j h d = ap used_mark (mark_kept j h d)

  module _ (key : Field) (inside : Within key) (distinct : Distinct key t n) where
    -- of two places other than i
    others : (p q : ℕ) → p < n → q < n → (i ≡ p → ⊥) → (i ≡ q → ⊥) → used_at u p ≡ true → used_at u q ≡ true → field_of u n p key ≡ field_of u n q key → p ≡ q
    others p q h k d e a b s =
        distinct p q h k (sym (used_kept p h d) ∙ a) (sym (used_kept q k e) ∙ b) (sym (else.same p h d key inside) ∙ s ∙ else.same q k e key inside)

    -- by whether each of the two is i
    by_place_lem : ((q : ℕ) → q < n → (i ≡ q → ⊥) → used_at u i ≡ true → used_at u q ≡ true → field_of u n i key ≡ field_of u n q key → ⊥) → Distinct key u n
    by_place_lem alone p q h k a b s =
        by_test (eqb i p)
        (λ e.
        let x : i ≡ p = eqb-true i p e in
        by_test (eqb i q)
        (λ f. sym x ∙ eqb-true i q f)
        (λ f. absurd (alone q k (eqb-false i q f) (ap (used_at u) x ∙ a) b (ap (λ (j : ℕ). field_of u n j key) x ∙ s))))
        (λ e.
        by_test (eqb i q)
        (λ f.
        let y : i ≡ q = eqb-true i q f in
        absurd (alone p h (eqb-false i p e) (ap (used_at u) y ∙ b) a (ap (λ (j : ℕ). field_of u n j key) y ∙ sym s)))
        (λ f. others p q h k (eqb-false i p e) (eqb-false i q f) a b s))

    -- emptying
    pub distinct_emptied : used_at u i ≡ false → Distinct key u n
    distinct_emptied e = by_place_lem (λ q k d a b s. true_false a e)

    -- filling with a key that no used place has
    pub distinct_filled : (ks : List ℕ) → field_of u n i key ≡ ks → NoneOf (Keyed t n key ks) n → Distinct key u n
    distinct_filled ks e none =
        by_place_lem (λ q k d a b s. none q k (sym (used_kept q k d) ∙ b, sym (else.same q k d key inside) ∙ sym s ∙ e))

-- a table with the same columns has the same used keys
pub distinct_same : (n : ℕ) (t u : List ℕ) → SameColumns n t u → (Distinct addr t n → Distinct addr u n) × (Distinct id t n → Distinct id u n)
distinct_same n t u s =
    let used : (j : ℕ) → j < n → used_at u j ≡ used_at t j = λ j h. ap used_mark (same_mark n t u s j h) in (
      λ d p q h k a b e. d p q h k (sym (used p h) ∙ a) (sym (used q k) ∙ b) (sym (s.addresses p h) ∙ e ∙ s.addresses q k),
      λ d p q h k a b e. d p q h k (sym (used p h) ∙ a) (sym (used q k) ∙ b) (sym (s.ids p h) ∙ e ∙ s.ids q k),
    )
