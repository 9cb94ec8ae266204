-- A body is its fields side by side, so writing them one after the other writes the body, and a field of the body is a part of
-- the slice that it lies in.
use mathlib.Core.Path.{◌≡◌, refl, sym, ap, ◌∙◌}
use Prim.Native.Nat.{ℕ, ◌+◌, ◌≤◌}
use native.Mathlib.Nat.{add-zero}
use native.Mathlib.Omega.{arith}
use mathlib.Core.List.{List, ◌++◌, append_assoc}
use lib.ListN.{length, take, drop, length-append, length-drop, drop_of_length-le}
use lib.Seq.{take_all}
use Rattle.serialize.specs.Runs.{part, splice, zeros}
use Rattle.serialize.specs.Le.{of_le, to_le}
use Rattle.serialize.proofs.Lists.{length_part, part_whole, part_part, splice_then}
use Rattle.serialize.proofs.Le.{length_to_le}
use Rattle.bodies.specs.Bodies.{request_body, token_body, keep_alive_body}
use Rattle.bodies.specs.Tokens.{token, token_clear}

-- ---- parts of a slice, cut where it ends

-- from p on there are at most k, and at most n: the same
pub rest_same : (l : List ℕ) (p k n : ℕ) → length l ≤ p + k → length l ≤ p + n → part l p k ≡ part l p n
rest_same l p k n h g = take_all k (drop p l) (simp length-drop (omega arith)) ∙ sym (take_all n (drop p l) (simp length-drop (omega arith)))

-- from the end on there is nothing, as from any later place
pub past_end : (l : List ℕ) (p k n : ℕ) → length l ≤ p → part l (length l) k ≡ part l p n
past_end l p k n h =
    let e : length l ≤ length l = omega arith in
    rest_same l (length l) k n (omega arith) (omega arith) ∙ ap (take n) (drop_of_length-le l e ∙ sym (drop_of_length-le l h))

-- ---- reading: a field of a body at index at of l

module _ (l : List ℕ) (at n : ℕ) where
  pub field_at : (b k : ℕ) → b + k ≤ n → of_le (part l (at + b) k) ≡ of_le (part (part l at n) b k)
  field_at b k h = ap of_le (sym (part_part l at n b k h))

  pub first_at : (k : ℕ) → k ≤ n → of_le (part l at k) ≡ of_le (part (part l at n) 0 k)
  first_at k h = ap (λ (i : ℕ). of_le (part l i k)) (sym (add-zero at)) ∙ field_at 0 k (omega arith)

-- ---- writing: field after field into l from index at, each right after the one before it

module _ (l : List ℕ) (at : ℕ) where
  -- three runs
  three_written : (t u v : List ℕ) (p q : ℕ) (xs ys zs : List ℕ) → t ≡ splice l at xs → u ≡ splice t p ys → v ≡ splice u q zs
      → at + length xs ≡ p → p + length ys ≡ q → q + length zs ≤ length l → v ≡ splice l at (xs ++ (ys ++ zs))
  three_written t u v p q xs ys zs e f g i j h =
      let k : length (xs ++ ys) ≡ length xs + length ys = length-append xs ys in
      splice_then l u v at (xs ++ ys) q zs (splice_then l t u at xs p ys e f i (omega arith)) g (omega arith) h
      ∙ ap (splice l at) (append_assoc xs ys zs)

  pub request_written : (t u v w : List ℕ) (protocol expiry : ℕ) (bytes : List ℕ) → at + 1077 ≤ length l → 1061 ≤ length bytes
      → t ≡ splice l at (part bytes 0 13) → u ≡ splice t (at + 13) (to_le 8 protocol) → v ≡ splice u (at + 21) (to_le 8 expiry) → w ≡ splice v (at + 29) (part bytes 13 1048)
      → w ≡ splice l at (request_body protocol expiry bytes)
  unfolding request_body
  request_written t u v w protocol expiry bytes h k e f g i =
      let version : List ℕ = part bytes 0 13 in
      let rest : List ℕ = part bytes 13 1048 in
      let a : length version ≡ 13 = length_part bytes 0 13 (omega arith) in
      let b : length (to_le 8 protocol) ≡ 8 = length_to_le 8 protocol in
      let c : length (to_le 8 expiry) ≡ 8 = length_to_le 8 expiry in
      let d : length rest ≡ 1048 = length_part bytes 13 1048 (omega arith) in
      let m : length (version ++ (to_le 8 protocol ++ to_le 8 expiry)) ≡ 29 = simp length-append (omega arith) in
      splice_then l v w at (version ++ (to_le 8 protocol ++ to_le 8 expiry)) (at + 29) rest
      (three_written t u v (at + 13) (at + 21) version (to_le 8 protocol) (to_le 8 expiry) e f g (omega arith) (omega arith) (omega arith))
      i (omega arith) (omega arith)
      ∙ ap (splice l at) (append_assoc version (to_le 8 protocol ++ to_le 8 expiry) rest ∙ ap (λ (x : List ℕ). version ++ x) (append_assoc (to_le 8 protocol) (to_le 8 expiry) rest))

  pub token_written : (t u : List ℕ) (sequence : ℕ) (bytes : List ℕ) → at + 308 ≤ length l → 300 ≤ length bytes
      → t ≡ splice l at (to_le 8 sequence) → u ≡ splice t (at + 8) (part bytes 0 300) → u ≡ splice l at (token_body sequence bytes)
  unfolding token_body
  token_written t u sequence bytes h k e f =
      let b : length (to_le 8 sequence) ≡ 8 = length_to_le 8 sequence in
      let d : length (part bytes 0 300) ≡ 300 = length_part bytes 0 300 (omega arith) in
      splice_then l t u at (to_le 8 sequence) (at + 8) (part bytes 0 300) e f (omega arith) (omega arith)

  pub keep_alive_written : (t u : List ℕ) (index maximum : ℕ) → at + 8 ≤ length l
      → t ≡ splice l at (to_le 4 index) → u ≡ splice t (at + 4) (to_le 4 maximum) → u ≡ splice l at (keep_alive_body index maximum)
  unfolding keep_alive_body
  keep_alive_written t u index maximum h e f =
      let b : length (to_le 4 index) ≡ 4 = length_to_le 4 index in
      let d : length (to_le 4 maximum) ≡ 4 = length_to_le 4 maximum in
      splice_then l t u at (to_le 4 index) (at + 4) (to_le 4 maximum) e f (omega arith) (omega arith)

  pub challenge_written : (t u v : List ℕ) (id : ℕ) (user : List ℕ) → at + 284 ≤ length l → length user ≡ 256
      → t ≡ splice l at (to_le 8 id) → u ≡ splice t (at + 8) (part user 0 256) → v ≡ splice u (at + 264) (zeros 20) → v ≡ splice l at (token_clear (token id user))
  unfolding token_clear
  challenge_written t u v id user h k e f g =
      let b : length (to_le 8 id) ≡ 8 = length_to_le 8 id in
      let z : length (zeros 20) ≡ 20 = refl in
      three_written t u v (at + 8) (at + 264) (to_le 8 id) user (zeros 20) e (f ∙ ap (splice t (at + 8)) (part_whole user 256 k)) g (omega arith) (omega arith) (omega arith)
