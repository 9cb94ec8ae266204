-- A turn of the loop writes one mark, and what decides a mark lies at it or past all marks: so the marks before it, which are new
-- already, change nothing of what it becomes.
use mathlib.Core.Path.{◌≡◌, refl, sym, ap, ap₂, ◌∙◌}
use mathlib.Core.Logic.{⊎_elim}
use mathlib.Core.Bool.{Bool, true, ◌&&◌, and-false}
use Prim.Native.Nat.{ℕ, zero, suc, ◌+◌, ◌≤◌, ◌<◌}
use native.Mathlib.Nat.{eq-or-lt_of_le}
use native.Mathlib.Numerals.{add-one}
use native.Mathlib.Omega.{arith}
use mathlib.Core.List.{List, [], ◌∷◌, ◌++◌}
use lib.ListN.{length, get_or, set, length-append, get_or-append}
use lib.Seq.{set-get_or, get_or_at}
use lib.Dec.{ltb}
use borrow.Author.Tests.{lt-ltb, le-ltb}
use Rattle.serialize.specs.Choice.{pick}
use Rattle.serialize.specs.Runs.{splice}
use Rattle.serialize.proofs.Lists.{get_or_splice_other, length_splice, splice_none, splice_snoc}
use Rattle.places.specs.Layout.{Shaped, used_mark, used_at, word_of, expiry_at}
use Rattle.places.proofs.Ways.{marked_used, empty_unused}
use Rattle.upkeep.specs.Clocks.{mark_left, marks_left}

-- ---- the mark of one place

module _ (t : List ℕ) (n secs i : ℕ) where
  abbrev past : Bool
  past = ltb (word_of t (expiry_at n i)) secs

  empty_left : get_or t i 0 ≡ 0 → mark_left t n secs i ≡ get_or t i 0
  unfolding mark_left pick
  empty_left e = ap (λ (b : Bool). pick (b && past) 0 (get_or t i 0)) (empty_unused t i e)

  pub expired_left : used_at t i ≡ true → word_of t (expiry_at n i) < secs → mark_left t n secs i ≡ 0
  unfolding mark_left pick
  expired_left u h = ap₂ (λ (a b : Bool). pick (a && b) 0 (get_or t i 0)) u (lt-ltb (word_of t (expiry_at n i)) secs h)

  pub lasting_left : secs ≤ word_of t (expiry_at n i) → mark_left t n secs i ≡ get_or t i 0
  unfolding mark_left pick
  lasting_left h =
      ap (λ (b : Bool). pick (used_at t i && b) 0 (get_or t i 0)) (le-ltb (word_of t (expiry_at n i)) secs h)
      ∙ ap (λ (b : Bool). pick b 0 (get_or t i 0)) (and-false (used_at t i))

  -- ---- the ways out of the call for one place; x is the expiry that was read

  same_table : mark_left t n secs i ≡ get_or t i 0 → t ≡ set t i (mark_left t n secs i)
  same_table e = sym (ap (set t i) e ∙ set-get_or t i 0)

  pub empty_stays : get_or t i 0 ≡ 0 → t ≡ set t i (mark_left t n secs i)
  empty_stays e = same_table (empty_left e)

  pub expired_goes : (get_or t i 0 ≡ 0 → ⊥) → (x : ℕ) → x ≡ word_of t (expiry_at n i) → x < secs → set t i 0 ≡ set t i (mark_left t n secs i)
  expired_goes u x e h = ap (set t i) (sym (expired_left (marked_used t i u) (omega arith)))

  pub lasting_stays : (x : ℕ) → x ≡ word_of t (expiry_at n i) → secs ≤ x → t ≡ set t i (mark_left t n secs i)
  lasting_stays x e h = same_table (lasting_left (omega arith))

-- ---- the marks of the first k places

module _ (t : List ℕ) (n secs : ℕ) where
  pub length_marks : (k : ℕ) → length (marks_left t n secs k) ≡ k
  unfolding marks_left
  length_marks zero = refl
  length_marks (suc k) = omega (arith, length-append (marks_left t n secs k) (mark_left t n secs k ∷ []), length_marks k)

  pub mark_at : (k i : ℕ) → i < k → get_or (marks_left t n secs k) i 0 ≡ mark_left t n secs i
  unfolding marks_left
  mark_at zero i h = absurd (omega arith)
  mark_at (suc k) i h =
      let l : i ≤ k = omega arith in
      let m : length (marks_left t n secs k) ≡ k = length_marks k in
      ⊎_elim
      (λ e.
      ap (λ (j : ℕ). get_or (marks_left t n secs k ++ (mark_left t n secs k ∷ [])) j 0) e
      ∙ get_or_at (marks_left t n secs k) (mark_left t n secs k) [] 0 k m
      ∙ ap (mark_left t n secs) (sym e))
      (λ q. get_or-append (marks_left t n secs k) (mark_left t n secs k ∷ []) 0 i (omega arith) ∙ mark_at k i q)
      (eq-or-lt_of_le l)

  -- ---- a loop's start, its turn and its end: u has the first i marks new, and v the next one

  pub drop_start : t ≡ splice t 0 (marks_left t n secs 0)
  unfolding marks_left
  drop_start = sym (splice_none t 0)

  module _ (shape : Shaped t n) (u : List ℕ) (i : ℕ) (h : i ≤ n) (e : u ≡ splice t 0 (marks_left t n secs i)) where
    fits : 0 + length (marks_left t n secs i) ≤ length t
    fits = omega (arith, length_marks i, shape.long)

    -- a word at mark i or past it
    kept : (j : ℕ) → i ≤ j → get_or u j 0 ≡ get_or t j 0
    kept j l =
        let m : length (marks_left t n secs i) ≡ i = length_marks i in
        ap (λ (x : List ℕ). get_or x j 0) e ∙ get_or_splice_other t 0 (marks_left t n secs i) j fits (λ q b z. omega arith)

    same_left : mark_left u n secs i ≡ mark_left t n secs i
    unfolding mark_left
    same_left =
        ap₂ (λ (x y : ℕ). pick (used_mark x && ltb y secs) 0 x) (kept i (omega arith)) (kept (expiry_at n i) (omega arith))

    pub drop_turn : i < n → (v : List ℕ) → v ≡ set u i (mark_left u n secs i) → v ≡ splice t 0 (marks_left t n secs (i + 1))
    unfolding marks_left
    drop_turn b v f =
        let m : 0 + length (marks_left t n secs i) ≡ i = omega (arith, length_marks i) in
        f
        ∙ ap₂ (λ (x : List ℕ) (y : ℕ). set x i y) e same_left
        ∙ ap (λ (j : ℕ). set (splice t 0 (marks_left t n secs i)) j (mark_left t n secs i)) (sym m)
        ∙ splice_snoc t 0 (marks_left t n secs i) (mark_left t n secs i) (omega (arith, shape.long))
        ∙ ap (λ (j : ℕ). splice t 0 (marks_left t n secs j)) (sym (add-one i))

    pub half_length : length u ≡ length t
    half_length = ap length e ∙ length_splice t 0 (marks_left t n secs i) fits

    pub half_shaped : Shaped u n
    half_shaped = record { few = shape.few; long = half_length ∙ shape.long }

    pub drop_end : n ≤ i → u ≡ splice t 0 (marks_left t n secs n)
    drop_end b = let z : i ≡ n = omega arith in e ∙ ap (λ (j : ℕ). splice t 0 (marks_left t n secs j)) z
