-- A mask of one byte, above which a number is zero, finds that byte: the masked number is that byte times the mask's place.
use mathlib.Core.Path.{◌≡◌, refl, sym, ap, ◌∙◌}
use Prim.Native.Nat.{ℕ, zero, suc, ◌+◌, ◌*◌, ◌/◌, ◌%◌, ◌^◌, ◌≤◌, ◌<◌}
use native.Mathlib.Nat.{pow-suc, mul_comm, div-lt_iff_lt-mul, mul-div_cancel, zero-div, zero-mul, div-eq_of_lt, lt_of_not-le}
use native.Mathlib.Omega.{arith}
use lib.Bits.{bit_and, and_high}
use lib.Pow.{pow-add, pow_pos, high_ones}

-- the mask of the topmost of n bytes
abbrev pub mask_at : ℕ → ℕ
mask_at zero = 0
mask_at (suc k) = 255 * 256 ^ k

pub mask_shift : (k : ℕ) → mask_at (suc k) / 256 ≡ mask_at k
mask_shift zero = refl
mask_shift (suc k) = let e : 256 ^ suc k ≡ 256 ^ k * 256 = pow-suc 256 k in omega arith

bits : (k : ℕ) → 256 ^ k ≡ 2 ^ (8 * k)
bits zero = refl
bits (suc k) =
    let e : 8 * k + 8 ≡ 8 * suc k = omega arith in
    pow-suc 256 k ∙ ap (λ (n : ℕ). n * 256) (bits k) ∙ sym (pow-add 2 (8 * k) 8) ∙ ap (λ (n : ℕ). 2 ^ n) e

pub pow256_pos : (k : ℕ) → 0 < 256 ^ k
pow256_pos k = rw (bits k) (pow_pos (8 * k))

masked : (v k : ℕ) → bit_and v (255 * 256 ^ k) ≡ v / 256 ^ k % 256 * 256 ^ k
masked v k = rw (bits k) (ap (bit_and v) (sym (high_ones 8 (8 * k))) ∙ and_high v 8 (8 * k))

top : (v k : ℕ) → v < 256 ^ suc k → v / 256 ^ k % 256 ≡ v / 256 ^ k
top v k h =
    let e : 256 ^ suc k ≡ 256 * 256 ^ k = pow-suc 256 k ∙ mul_comm (256 ^ k) 256 in
    let q : v / 256 ^ k < 256 = (div-lt_iff_lt-mul (pow256_pos k)).1 (omega arith) in
    omega arith

-- the mask finds nothing: the number is held by the bytes below it
pub mask_clear : (v k : ℕ) → v < 256 ^ suc k → bit_and v (mask_at (suc k)) ≡ 0 → v < 256 ^ k
mask_clear v k h e =
    let z : v / 256 ^ k * 256 ^ k ≡ 0 = ap (λ (n : ℕ). n * 256 ^ k) (sym (top v k h)) ∙ sym (masked v k) ∙ e in
    let q : v / 256 ^ k ≡ 0 = sym (mul-div_cancel (v / 256 ^ k) (pow256_pos k)) ∙ ap (λ (n : ℕ). n / 256 ^ k) z ∙ zero-div (256 ^ k) in
    let l : v < 1 * 256 ^ k = (div-lt_iff_lt-mul (pow256_pos k)).0 (omega arith) in
    omega arith

-- the mask finds something: it is not
pub mask_set : (v k : ℕ) → (bit_and v (mask_at (suc k)) ≡ 0 → ⊥) → 256 ^ k ≤ v
mask_set v k d =
    let l : 256 ^ k < suc v =
    lt_of_not-le (λ h. d (masked v k ∙ ap (λ (n : ℕ). n % 256 * 256 ^ k) (div-eq_of_lt h) ∙ zero-mul (256 ^ k))) in
    omega arith
