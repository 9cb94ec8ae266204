-- What digits say: tests, numbers and bytes, digit after digit.
use Rattle.std.proofs.Common.{◌≡◌, ℕ, zero, suc, ◌+◌, ◌-◌, ◌*◌, ◌/◌, ◌<◌, ◌≤◌, min, true, ltb, List, length, get_or, drop, sym, refl, ap, ◌∙◌, ap₂, arith, drop_of_length-le, get_or-drop}
use Rattle.serialize.specs.Runs.{part, splice, both}
use Rattle.serialize.proofs.Lists.{part_splice_same}
use Rattle.tokens.proofs.Spaced.{cons_at}
use Rattle.tokens.specs.Text.{digit_of, all_below, with_digit, value_from, pair_of, unhex, bytes_of}

-- ---- all are digits

pub below_at : (base : ℕ) (l : List ℕ) (i : ℕ) → i < length l → all_below base (drop i l) ≡ both (ltb (digit_of (get_or l i 0)) base) (all_below base (drop (i + 1) l))
unfolding all_below
below_at base l i h = ap (all_below base) (cons_at l i h)

pub below_end : (base : ℕ) (l : List ℕ) (i : ℕ) → length l ≤ i → all_below base (drop i l) ≡ true
unfolding all_below
below_end base l i h = ap (all_below base) (drop_of_length-le l h)

-- ---- the number

pub value_at : (base v : ℕ) (l : List ℕ) (i : ℕ) → i < length l → value_from base v (drop i l) ≡ value_from base (with_digit base v (get_or l i 0)) (drop (i + 1) l)
unfolding value_from
value_at base v l i h = ap (value_from base v) (cons_at l i h)

pub value_end : (base v : ℕ) (l : List ℕ) (i : ℕ) → length l ≤ i → value_from base v (drop i l) ≡ v
unfolding value_from
value_end base v l i h = ap (value_from base v) (drop_of_length-le l h)

-- ---- the bytes

pub length_unhex : (n : ℕ) (w : List ℕ) → length (unhex n w) ≡ n
unfolding unhex
length_unhex zero w = refl
length_unhex (suc n) w = ap suc (length_unhex n (drop 2 w))

pub unhex_at : (n i : ℕ) (w : List ℕ) → i < n → get_or (unhex n w) i 0 ≡ pair_of (get_or w (2 * i) 0) (get_or w (2 * i + 1) 0)
unfolding unhex
unhex_at zero i w h = absurd (omega arith)
unhex_at (suc n) zero w h = refl
unhex_at (suc n) (suc i) w h =
    let p : 2 + 2 * i ≡ 2 * suc i = omega arith in
    let q : 2 + (2 * i + 1) ≡ 2 * suc i + 1 = omega arith in
    unhex_at n i (drop 2 w) (omega arith)
    ∙ ap₂ pair_of (get_or-drop 2 w (2 * i) 0 ∙ ap (λ (k : ℕ). get_or w k 0) p) (get_or-drop 2 w (2 * i + 1) 0 ∙ ap (λ (k : ℕ). get_or w k 0) q)

-- bytes that were written to the start of a list stand there
read_back : (l : List ℕ) (n : ℕ) (w : List ℕ) → n ≤ length l → part (splice l 0 (unhex n w)) 0 n ≡ unhex n w
read_back l n w h =
    ap (λ (k : ℕ). part (splice l 0 (unhex n w)) 0 k) (sym (length_unhex n w))
    ∙ part_splice_same l 0 (unhex n w) (omega (arith, length_unhex n w))

pub token_back : (l last w : List ℕ) (room n : ℕ) → length l ≡ room → n ≡ min (length w / 2) (length l - 0) → last ≡ splice l 0 (bytes_of (length l - 0) w)
    → part last (0 + 0) n ≡ bytes_of room w
token_back l last w room n h p q =
    let e : length l - 0 ≡ room = omega arith in
    let m : n ≡ min (length w / 2) room = p ∙ ap (λ (k : ℕ). min (length w / 2) k) e in
    ap₂ (λ (t : List ℕ) (k : ℕ). part t 0 k) (q ∙ ap (λ (k : ℕ). splice l 0 (bytes_of k w)) e) m
    ∙ read_back l (min (length w / 2) room) w (omega arith)
