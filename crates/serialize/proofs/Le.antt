-- The laws of little-endian numbers, over any width: a number's low bytes, and then the bytes of what is left of it.
use mathlib.Core.Path.{◌≡◌, refl, sym, ap, ◌∙◌}
use Prim.Native.Nat.{ℕ, zero, suc, ◌+◌, ◌*◌, ◌/◌, ◌%◌, ◌^◌, ◌≤◌, ◌<◌, ◌-◌}
use native.Mathlib.Nat.{add-zero, zero-add, suc-add, pow-suc, pow-zero, add_comm, mul_assoc, mul_comm, one-mul, div-div-eq-div-mul, div-add-mod'}
use native.Mathlib.Omega.{arith}
use mathlib.Core.List.{List, [], ◌∷◌, ◌++◌}
use lib.ListN.{length, take, drop, get_or}
use lib.Seq.{take_at, drop-cons, take-suc, take-take, take_all, length-take-le}
use borrow.Rule.Slice.PartMut.{put_mid}
use Rattle.std.specs.Int.{byte_at, byte_worth, bytes_low_first, sum_through}
use Rattle.std.specs.List.{slice_index}
use Rattle.serialize.specs.Runs.{part, splice, zeros, Below}
use Rattle.serialize.specs.Le.{of_le, to_le}
use Rattle.serialize.proofs.Lists.{length_part, part_add, part_splice_same, splice_then, lent_part}

-- ---- lengths and bounds

pub length_to_le : (k v : ℕ) → length (to_le k v) ≡ k
unfolding to_le
length_to_le zero v = refl
length_to_le (suc k) v = ap suc (length_to_le k (v / 256))

pub to_le_bytes : (k v : ℕ) → Below 256 (to_le k v)
unfolding to_le
to_le_bytes zero v i = omega arith
to_le_bytes (suc k) v zero = omega arith
to_le_bytes (suc k) v (suc i) = to_le_bytes k (v / 256) i

pub of_le_below : (bs : List ℕ) → Below 256 bs → of_le bs < 256 ^ length bs
unfolding of_le
of_le_below [] b = omega (arith, pow-zero 256)
of_le_below (x ∷ bs) b =
    let p : 256 ^ suc (length bs) ≡ 256 ^ length bs * 256 = pow-suc 256 (length bs) in
    omega (arith, of_le_below bs (λ i. b (suc i)), b 0)

-- ---- there and back

pub of_le_to_le : (k v : ℕ) → v < 256 ^ k → of_le (to_le k v) ≡ v
unfolding of_le to_le
of_le_to_le zero v h = omega (arith, pow-zero 256)
of_le_to_le (suc k) v h =
    let p : 256 ^ suc k ≡ 256 ^ k * 256 = pow-suc 256 k in
    let q : v / 256 < 256 ^ k = omega arith in
    omega (arith, of_le_to_le k (v / 256) q)

pub to_le_of_le : (bs : List ℕ) → Below 256 bs → to_le (length bs) (of_le bs) ≡ bs
unfolding to_le of_le
to_le_of_le [] b = refl
to_le_of_le (x ∷ bs) b =
    let small : x < 256 = b 0 in
    let r : (x + 256 * of_le bs) % 256 ≡ x = omega arith in
    let q : (x + 256 * of_le bs) / 256 ≡ of_le bs = omega arith in
    ap (λ (y : ℕ). y ∷ to_le (length bs) ((x + 256 * of_le bs) / 256)) r
    ∙ ap (λ (y : ℕ). x ∷ to_le (length bs) y) q
    ∙ ap (λ (l : List ℕ). x ∷ l) (to_le_of_le bs (λ i. b (suc i)))

-- ---- zeros after a number's bytes

pub of_le_zeros : (k : ℕ) → of_le (zeros k) ≡ 0
unfolding of_le
of_le_zeros zero = refl
of_le_zeros (suc k) = ap (λ (n : ℕ). 0 + 256 * n) (of_le_zeros k)

-- a padded number reads as the same number
pub of_le_padded : (bs : List ℕ) (k : ℕ) → of_le (bs ++ zeros k) ≡ of_le bs
unfolding of_le
of_le_padded [] k = of_le_zeros k
of_le_padded (b ∷ bs) k = ap (λ (n : ℕ). b + 256 * n) (of_le_padded bs k)

-- ---- two halves

pub of_le_append : (xs ys : List ℕ) → of_le (xs ++ ys) ≡ of_le xs + 256 ^ length xs * of_le ys
unfolding of_le
of_le_append [] ys = sym (zero-add (256 ^ 0 * of_le ys) ∙ one-mul (of_le ys))
of_le_append (x ∷ xs) ys =
    let n : ℕ = 256 ^ length xs in
    let p : 256 ^ suc (length xs) * of_le ys ≡ 256 * (n * of_le ys) =
    ap (λ (m : ℕ). m * of_le ys) (pow-suc 256 (length xs) ∙ mul_comm n 256) ∙ mul_assoc 256 n (of_le ys) in
    omega (arith, of_le_append xs ys)

-- a number as code reads it: its low half, and its high half times the low half's size
pub of_le_halves : (l : List ℕ) (at m n : ℕ) → at + (m + n) ≤ length l → of_le (part l at (m + n)) ≡ of_le (part l at m) + 256 ^ m * of_le (part l (at + m) n)
of_le_halves l at m n h =
    ap of_le (part_add l at m n)
    ∙ of_le_append (part l at m) (part l (at + m) n)
    ∙ ap (λ (k : ℕ). of_le (part l at m) + 256 ^ k * of_le (part l (at + m) n)) (length_part l at m (omega arith))

-- one byte is its own number
pub of_le_byte : (l : List ℕ) (at : ℕ) → at < length l → of_le (part l at 1) ≡ get_or l at 0
unfolding of_le
of_le_byte l at h = ap (λ (t : List ℕ). of_le (take 1 t)) (drop-cons l at 0 h) ∙ add-zero (get_or l at 0)

pub to_le_append : (m n v : ℕ) → to_le (m + n) v ≡ to_le m v ++ to_le n (v / 256 ^ m)
unfolding to_le
to_le_append zero n v = ap (λ (k : ℕ). to_le k v) (zero-add n) ∙ ap (to_le n) (omega arith)
to_le_append (suc m) n v =
    ap (λ (k : ℕ). to_le k v) (suc-add m n)
    ∙ ap (λ (t : List ℕ). v % 256 ∷ t) (to_le_append m n (v / 256))
    ∙ ap (λ (w : ℕ). v % 256 ∷ (to_le m (v / 256) ++ to_le n w)) (div-div-eq-div-mul v 256 (256 ^ m) ∙ ap (λ (k : ℕ). v / k) (mul_comm 256 (256 ^ m) ∙ sym (pow-suc 256 m)))

-- what is a multiple of 256 ^ m does not count for the m low bytes
to_le_plus : (m r q : ℕ) → to_le m (r + 256 ^ m * q) ≡ to_le m r
unfolding to_le
to_le_plus zero r q = refl
to_le_plus (suc m) r q =
    let e : 256 ^ suc m * q ≡ 256 * (256 ^ m * q) = ap (λ (k : ℕ). k * q) (pow-suc 256 m ∙ mul_comm (256 ^ m) 256) ∙ mul_assoc 256 (256 ^ m) q in
    let low : (r + 256 ^ suc m * q) % 256 ≡ r % 256 = omega arith in
    let high : (r + 256 ^ suc m * q) / 256 ≡ r / 256 + 256 ^ m * q = omega arith in
    ap (λ (x : ℕ). x ∷ to_le m ((r + 256 ^ suc m * q) / 256)) low
    ∙ ap (λ (x : ℕ). r % 256 ∷ to_le m x) high
    ∙ ap (λ (t : List ℕ). r % 256 ∷ t) (to_le_plus m (r / 256) q)

pub to_le_mod : (m v : ℕ) → to_le m (v % 256 ^ m) ≡ to_le m v
to_le_mod m v =
    let e : v % 256 ^ m + 256 ^ m * (v / 256 ^ m) ≡ v = ap (λ (x : ℕ). v % 256 ^ m + x) (mul_comm (256 ^ m) (v / 256 ^ m)) ∙ add_comm (v % 256 ^ m) (v / 256 ^ m * 256 ^ m) ∙ div-add-mod' v (256 ^ m) in
    sym (to_le_plus m (v % 256 ^ m) (v / 256 ^ m)) ∙ ap (to_le m) e

-- the first bytes of more bytes
pub part_to_le : (m n v : ℕ) → m ≤ n → part (to_le n v) 0 m ≡ to_le m v
part_to_le m n v h =
    let e : n ≡ m + (n - m) = omega arith in
    ap (λ (k : ℕ). take m (to_le k v)) e
    ∙ ap (take m) (to_le_append m (n - m) v)
    ∙ take_at (to_le m v) (to_le (n - m) (v / 256 ^ m)) m (length_to_le m v)

-- a number as code writes it: its low half at at, and its high half right after it
pub to_le_halves : (l t u : List ℕ) (at m n v : ℕ) → t ≡ splice l at (to_le m (v % 256 ^ m)) → u ≡ splice t (at + m) (to_le n (v / 256 ^ m)) → at + (m + n) ≤ length l
    → u ≡ splice l at (to_le (m + n) v)
to_le_halves l t u at m n v p q h =
    let k : length (to_le m v) ≡ m = length_to_le m v in
    splice_then l t u at (to_le m v) (at + m) (to_le n (v / 256 ^ m)) (p ∙ ap (splice l at) (to_le_mod m v)) q (omega arith) (omega (arith, length_to_le n (v / 256 ^ m)))
    ∙ ap (splice l at) (sym (to_le_append m n v))

-- ---- a number read where it was written

pub of_le_splice : (l : List ℕ) (at k v : ℕ) → at + k ≤ length l → v < 256 ^ k → of_le (part (splice l at (to_le k v)) at k) ≡ v
of_le_splice l at k v h s =
    let n : length (to_le k v) ≡ k = length_to_le k v in
    ap (λ (j : ℕ). of_le (part (splice l at (to_le k v)) at j)) (sym n)
    ∙ ap of_le (part_splice_same l at (to_le k v) (omega arith))
    ∙ of_le_to_le k v s

-- ---- a number as the library has it

-- of the bytes, least first, k and one more
sum_bytes : (bs : List ℕ) (k : ℕ) → k < length bs → sum_through (λ i. byte_worth i (slice_index bs i)) k ≡ of_le (take (suc k) bs)
unfolding of_le
sum_bytes [] zero h = absurd (omega arith)
sum_bytes (b ∷ bs) zero h = sym (add-zero b)
sum_bytes bs (suc k) h =
    let b : ℕ = get_or bs (suc k) 0 in
    let n : length (take (suc k) bs) ≡ suc k = length-take-le (suc k) bs (omega arith) in
    let e : b * 256 ^ suc k ≡ 256 ^ length (take (suc k) bs) * of_le (b ∷ []) =
    mul_comm b (256 ^ suc k) ∙ ap (λ (j : ℕ). 256 ^ j * b) (sym n) ∙ ap (λ (x : ℕ). 256 ^ length (take (suc k) bs) * x) (sym (add-zero b)) in
    ap (λ (x : ℕ). x + b * 256 ^ suc k) (sum_bytes bs k (omega arith))
    ∙ ap (λ (x : ℕ). of_le (take (suc k) bs) + x) e
    ∙ sym (of_le_append (take (suc k) bs) (b ∷ []))
    ∙ ap of_le (sym (take-suc bs (suc k) 0 h))

-- chunk is the first k + 1 bytes of the m from at on, and v the number that the library makes of it
pub bytes_read : (l : List ℕ) (at k m : ℕ) (chunk : List ℕ) (v : ℕ) → at + suc k ≤ length l → suc k ≤ m → chunk ≡ take (suc k) (take m (drop at l))
    → v ≡ sum_through (λ i. byte_worth i (slice_index chunk i)) k → v ≡ of_le (part l at (suc k))
bytes_read l at k m chunk v h w e q =
    let p : chunk ≡ part l at (suc k) = e ∙ take-take (suc k) m (drop at l) w in
    let n : length chunk ≡ suc k = ap length p ∙ length_part l at (suc k) h in
    q ∙ sum_bytes chunk k (omega arith) ∙ ap (λ (j : ℕ). of_le (take j chunk)) (sym n) ∙ ap of_le (take_all (length chunk) chunk (omega arith) ∙ p)

byte_at_is : (i v : ℕ) → byte_at i v ≡ v / 256 ^ i % 256
byte_at_is zero v = omega (arith, pow-zero 256)
byte_at_is (suc i) v = refl

low_first : (k i v : ℕ) → bytes_low_first i k v ≡ to_le k (v / 256 ^ i)
unfolding to_le
low_first zero i v = refl
low_first (suc k) i v =
    ap (λ (x : ℕ). x ∷ bytes_low_first (suc i) k v) (byte_at_is i v)
    ∙ ap (λ (t : List ℕ). v / 256 ^ i % 256 ∷ t) (low_first k (suc i) v)
    ∙ ap (λ (x : ℕ). v / 256 ^ i % 256 ∷ to_le k x) (ap (λ (x : ℕ). v / x) (pow-suc 256 i) ∙ sym (div-div-eq-div-mul v (256 ^ i) 256))

-- a part of n bytes was lent, and came back as the bytes vs that the library makes of v
pub bytes_written : (l : List ℕ) (at n v : ℕ) (t vs : List ℕ) → t ≡ vs → vs ≡ bytes_low_first 0 n v → put_mid at (at + n - at) l t ≡ splice l at (to_le n v)
bytes_written l at n v t vs e q =
    let z : v / 256 ^ 0 ≡ v = omega (arith, pow-zero 256) in
    let p : t ≡ to_le n v = e ∙ q ∙ low_first n 0 v ∙ ap (to_le n) z in
    lent_part l at (at + n) n t (to_le n v) refl p (ap length p ∙ length_to_le n v)
