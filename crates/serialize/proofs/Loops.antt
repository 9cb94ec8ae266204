-- A start, a turn and an end for every loop that writes a list into a slice from a place on, one element a turn: what is
-- written so far is a prefix of what is wanted.
use mathlib.Core.Path.{◌≡◌, refl, sym, ap, ◌∙◌}
use Prim.Native.Nat.{ℕ, ◌+◌, ◌*◌, ◌≤◌, ◌<◌}
use native.Mathlib.Numerals.{add-one}
use native.Mathlib.Omega.{arith}
use mathlib.Core.List.{List, ◌++◌}
use lib.ListN.{length, take, drop, get_or, set, length-set, length-replicate, get_or-replicate}
use lib.Seq.{paste, paste-zero, paste-suc, take-length}
use Rattle.serialize.specs.Runs.{part, splice, zeros}
use Rattle.serialize.specs.Le.{of_le, words}
use Rattle.serialize.proofs.Lists.{length_part, get_or_part}
use Rattle.serialize.proofs.Packed.{length_words, word_at}

-- the invariant: r is d with the first i of the n elements of s written from at
abbrev pub Filled : List ℕ → ℕ → List ℕ → ℕ → List ℕ → ℕ → Type 0
Filled d at s n r i = (i ≤ n) × (r ≡ paste d at s i) × (length r ≡ length d)

-- ---- what is wanted is any list s of n elements

module _ (d : List ℕ) (at : ℕ) (s : List ℕ) (n : ℕ) where
  pub fill_start : Filled d at s n d 0
  fill_start = (omega arith, paste-zero d at s, refl)

  module _ (k : length s ≡ n) (r : List ℕ) (i : ℕ) (w : Filled d at s n r i) where
    pub fill_turn : (v : ℕ) → v ≡ get_or s i 0 → at + n ≤ length d → i < n → Filled d at s n (set r (at + i) v) (i + 1)
    fill_turn v q f h = (
      omega arith,
      ap (λ (l : List ℕ). set l (at + i) v) w.1
          ∙ ap (λ (x : ℕ). set (paste d at s i) (at + i) x) q
          ∙ paste-suc d at s i 0 (omega arith) (omega arith)
          ∙ ap (paste d at s) (sym (add-one i)),
      length-set r (at + i) v ∙ w.2,
    )

    pub fill_end : n ≤ i → r ≡ splice d at s
    unfolding splice
    fill_end h =
        let e : i ≡ length s = omega (arith, w.0) in
        w.1 ∙ ap (paste d at s) e ∙ ap (λ (l : List ℕ). take at d ++ l ++ drop (at + length s) d) (take-length s)

-- ---- a part of another list

module _ (d : List ℕ) (at : ℕ) (src : List ℕ) (from n : ℕ) (f : (at + n ≤ length d) × (from + n ≤ length src)) (r : List ℕ) (i : ℕ) (w : Filled d at (part src from n) n r i) where
  pub copy_turn : i < n → Filled d at (part src from n) n (set r (at + i) (get_or src (from + i) 0)) (i + 1)
  copy_turn h = fill_turn d at (part src from n) n (length_part src from n f.1) r i w _ (sym (get_or_part src from n i h)) f.0 h

  pub copy_end : n ≤ i → r ≡ splice d at (part src from n)
  copy_end h = fill_end d at (part src from n) n (length_part src from n f.1) r i w h

-- ---- zeros

module _ (d : List ℕ) (at n : ℕ) (r : List ℕ) (i : ℕ) (w : Filled d at (zeros n) n r i) where
  pub zero_turn : at + n ≤ length d → i < n → Filled d at (zeros n) n (set r (at + i) 0) (i + 1)
  zero_turn f h = fill_turn d at (zeros n) n (length-replicate n 0) r i w 0 (sym (get_or-replicate n i 0 0 h)) f h

  pub zero_end : n ≤ i → r ≡ splice d at (zeros n)
  zero_end h = fill_end d at (zeros n) n (length-replicate n 0) r i w h

-- ---- words of bytes

module _ (d : List ℕ) (at : ℕ) (src : List ℕ) (from n : ℕ) (r : List ℕ) (i : ℕ) (w : Filled d at (words n (drop from src)) n r i) where
  pub pack_turn : (v : ℕ) → v ≡ of_le (part src (from + i * 8) 8) → at + n ≤ length d → i < n → Filled d at (words n (drop from src)) n (set r (at + i) v) (i + 1)
  pack_turn v q f h = fill_turn d at (words n (drop from src)) n (length_words n (drop from src)) r i w v (q ∙ sym (word_at n i from src h)) f h

  pub pack_end : n ≤ i → r ≡ splice d at (words n (drop from src))
  pack_end h = fill_end d at (words n (drop from src)) n (length_words n (drop from src)) r i w h
