-- A sequence on the wire: what the writer makes is read back, a padded form is the same number, and no form is shorter,
-- because the bytes of a number are its digits and `fewest` is the least count that holds it.
use Rattle.std.specs.Prelude.{Ok, Err}
use mathlib.Core.Path.{◌≡◌, sym, ap, ap₂, ◌∙◌}
use Prim.Native.Nat.{ℕ, ◌+◌, ◌*◌, ◌/◌, ◌%◌, ◌-◌, ◌^◌, ◌≤◌, ◌<◌}
use native.Mathlib.Nat.{add-zero}
use native.Mathlib.Omega.{arith}
use mathlib.Core.List.{List}
use lib.ListN.{length, get_or}
use borrow.Author.Tests.{lt-ltb, le-ltb}
use Rattle.serialize.specs.Choice.{pick}
use Rattle.serialize.specs.Runs.{part, splice, zeros, Below}
use Rattle.serialize.specs.Le.{of_le, to_le}
use Rattle.serialize.proofs.Lists.{part_whole, length_splice, splice_zeros, splice_whole, get_or_splice_in, part_splice_in}
use Rattle.serialize.proofs.Le.{length_to_le, of_le_to_le, to_le_of_le, of_le_below, of_le_padded, of_le_splice, part_to_le}
use Rattle.prefix.specs.Head.{fewest, prefix_byte, prefix_of, says, head_bytes, sequence_at, Head}
use Rattle.prefix.proofs.Fewest.{pow256_mono, fewest_means, fewest_le}

-- ---- the reader's three answers, each exactly when

pub reads_number : (l : List ℕ) (at count : ℕ) → count ≤ 8 → at + count ≤ length l → sequence_at l at count ≡ Ok (of_le (part l at count))
unfolding sequence_at pick
reads_number l at count h f = simp (le-ltb 8 count h, le-ltb (length l) (at + count) f)

pub reads_too_long : (l : List ℕ) (at count : ℕ) → 8 < count → sequence_at l at count ≡ Err 4
unfolding sequence_at pick
reads_too_long l at count h = simp (lt-ltb 8 count h)

pub reads_short : (l : List ℕ) (at count : ℕ) → count ≤ 8 → length l < at + count → sequence_at l at count ≡ Err 7
unfolding sequence_at pick
reads_short l at count h f = simp (le-ltb 8 count h, lt-ltb (length l) (at + count) f)

-- ---- theorems

-- the prefix byte gives back the type and the count
pub prefix_reads_back : (kind count : ℕ) → kind < 16 → prefix_of (prefix_byte kind count) ≡ says kind count
prefix_reads_back kind count h =
    let k : (kind % 16 + 16 * count) % 16 ≡ kind = omega arith in
    let n : (kind % 16 + 16 * count) / 16 ≡ count = omega arith in
    ap₂ says k n

-- a padded form reads as the same number: n bytes of v, from the fewest to eight, at any place of any buffer
pub padded_reads_same : (l : List ℕ) (at v n : ℕ) → v < 256 ^ 8 → fewest v ≤ n → n ≤ 8 → at + n ≤ length l → sequence_at (splice l at (to_le n v)) at n ≡ Ok v
padded_reads_same l at v n h k m f =
    let w : length (to_le n v) ≡ n = length_to_le n v in
    let e : length (splice l at (to_le n v)) ≡ length l = length_splice l at (to_le n v) (omega arith) in
    let p : 256 ^ fewest v ≤ 256 ^ n = pow256_mono k in
    reads_number (splice l at (to_le n v)) at n m (omega arith) ∙ ap Ok (of_le_splice l at n v f (omega (arith, (fewest_means v h).holds)))

-- so reading what was written gives the sequence back, with the count minimal
pub sequence_reads_back : (l : List ℕ) (at v : ℕ) → v < 256 ^ 8 → at + fewest v ≤ length l → sequence_at (splice l at (to_le (fewest v) v)) at (fewest v) ≡ Ok v
sequence_reads_back l at v h f = padded_reads_same l at v (fewest v) h (omega arith) (fewest_le v h) f

-- and a whole head, type and sequence
pub head_reads_back : (l : List ℕ) (at kind v : ℕ) → kind < 16 → v < 256 ^ 8 → at + 1 + fewest v ≤ length l → Head (splice l at (head_bytes kind v)) at kind (fewest v) v
head_reads_back l at kind v k h f =
    let b : List ℕ = head_bytes kind v in
    let n : length (to_le (fewest v) v) ≡ fewest v = length_to_le (fewest v) v in
    let fits : at + length b ≤ length l = omega arith in
    let e : length (splice l at b) ≡ length l = length_splice l at b fits in
    record {
      said =
          ap (λ (i : ℕ). prefix_of (get_or (splice l at b) i 0)) (sym (add-zero at))
          ∙ ap prefix_of (get_or_splice_in l at b 0 fits (omega arith))
          ∙ prefix_reads_back kind (fewest v) k;
      follows =
          reads_number (splice l at b) (at + 1) (fewest v) (fewest_le v h) (omega arith)
          ∙ ap (λ (t : List ℕ). Ok (of_le t)) (part_splice_in l at b 1 (fewest v) fits (omega arith) ∙ part_whole (to_le (fewest v) v) (fewest v) n)
          ∙ ap Ok (of_le_to_le (fewest v) v (fewest_means v h).holds);
    }

-- no shorter form exists
pub no_shorter : (bs : List ℕ) → Below 256 bs → of_le bs < 256 ^ 8 → fewest (of_le bs) ≤ length bs
no_shorter bs b h = (fewest_means (of_le bs) h).least (length bs) (of_le_below bs b)

-- and no other of that length
pub only_form : (bs : List ℕ) → Below 256 bs → length bs ≡ fewest (of_le bs) → bs ≡ to_le (fewest (of_le bs)) (of_le bs)
only_form bs b n = sym (to_le_of_le bs b) ∙ ap (λ (k : ℕ). to_le k (of_le bs)) n

-- ---- eight bytes of scratch, as the code uses them

pub scratch_reads : (vs : List ℕ) → length vs ≤ 8 → of_le (part (splice (zeros 8) 0 vs) 0 8) ≡ of_le vs
scratch_reads vs h =
    ap of_le (part_whole (splice (zeros 8) 0 vs) 8 (length_splice (zeros 8) 0 vs (omega arith)) ∙ splice_zeros 8 vs h)
    ∙ of_le_padded vs (8 - length vs)

scratch_writes : (v n : ℕ) → n ≤ 8 → part (splice (zeros 8) 0 (to_le 8 v)) 0 n ≡ to_le n v
scratch_writes v n h =
    ap (λ (t : List ℕ). part t 0 n) (splice_whole (zeros 8) (to_le 8 v) (length_to_le 8 v)) ∙ part_to_le n 8 v h

-- t is the scratch with all eight bytes of v, and r is l with the first n of them at at
pub scratch_copied : (l t r : List ℕ) (at v n : ℕ) → v < 256 ^ 8 → n ≡ fewest v → t ≡ splice (zeros 8) 0 (to_le 8 v) → r ≡ splice l at (part t 0 n)
    → r ≡ splice l at (to_le (fewest v) v)
scratch_copied l t r at v n h e p q =
    q ∙ ap (splice l at) (ap₂ (λ (x : List ℕ) (k : ℕ). part x 0 k) p e ∙ scratch_writes v (fewest v) (fewest_le v h))
