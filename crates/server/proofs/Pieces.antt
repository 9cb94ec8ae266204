-- A run over the whole of an array is the array, runs that lie right after each other are one run, and each is read where it was put.
use mathlib.Core.Path.{◌≡◌, sym, ap, ◌∙◌}
use Prim.Native.Nat.{ℕ, ◌+◌, ◌-◌, ◌≤◌, ◌<◌, ◌^◌}
use native.Mathlib.Omega.{arith}
use mathlib.Core.List.{List, ◌++◌}
use lib.ListN.{length, length-append}
use Rattle.serialize.specs.Runs.{part, splice, zeros}
use Rattle.serialize.specs.Le.{of_le, to_le}
use Rattle.serialize.proofs.Lists.{length_part, length_splice, part_whole, part_left, part_right, splice_whole, splice_zeros, splice_then, part_splice_same, part_splice_before, part_splice_after}
use Rattle.serialize.proofs.Le.{length_to_le, of_le_to_le}
use Rattle.asks.specs.declared.Ask as packet
use Rattle.server.specs.declared.Buffer.{Buffer}
use Rattle.server.specs.Asking.{ask, buffer_of, asked}
use Rattle.server.specs.Held.{held_token, held_challenge, held_id, held_expiry, held_timeout, held_send_key, held_receive_key, held_user_data}

pub copied : (z src : List ℕ) (at n : ℕ) {u : List ℕ} → u ≡ splice z 0 (part src at n) → length z ≡ n → at + n ≤ length src → u ≡ part src at n
copied z src at n e k h = e ∙ splice_whole z (part src at n) (omega (arith, length_part src at n h))

-- a shorter run, and zeros after it
padded : (size n : ℕ) (src : List ℕ) {u : List ℕ} → u ≡ splice (zeros size) 0 (part src 0 n) → n ≤ length src → n ≤ size → u ≡ part src 0 n ++ zeros (size - n)
padded size n src e h k =
    let l : length (part src 0 n) ≡ n = length_part src 0 n (omega arith) in
    e ∙ splice_zeros size (part src 0 n) (omega arith) ∙ ap (λ (x : ℕ). part src 0 n ++ zeros (size - x)) l

pub ask_laid : (a : packet.Ask) (buffer : Buffer) (nonce additional : List ℕ) → buffer ≡ buffer_of a.work → nonce ≡ splice (zeros 24) 0 (part a.nonce 0 12)
    → additional ≡ splice (zeros 29) 0 (part a.additional 0 22) → 12 ≤ length a.nonce → 22 ≤ length a.additional
    → ask a.work buffer a.key nonce 12 additional a.size a.start a.end ≡ asked a
unfolding asked
ask_laid a buffer nonce additional b p q h k =
    rw (b, padded 24 12 a.nonce p h (omega arith), padded 29 22 a.additional q k (omega arith))

-- what stands after xs
last_of : (xs ys : List ℕ) (at n : ℕ) → length xs ≡ at → length ys ≡ n → part (xs ++ ys) at n ≡ ys
last_of xs ys at n e k =
    let z : at ≡ length xs + 0 = omega arith in
    ap (λ (i : ℕ). part (xs ++ ys) i n) z ∙ part_right xs ys 0 n ∙ part_whole ys n k

-- ---- what is held

module _ (id expiry timeout : ℕ) (send receive user : List ℕ) (s : length send ≡ 32) (r : length receive ≡ 32) (u : length user ≡ 256) where
  one : List ℕ
  one = to_le 8 id

  two : List ℕ
  two = one ++ to_le 8 expiry

  three : List ℕ
  three = two ++ to_le 4 timeout

  four : List ℕ
  four = three ++ part send 0 32

  five : List ℕ
  five = four ++ part receive 0 32

  one_long : length one ≡ 8
  unfolding one
  one_long = length_to_le 8 id

  two_long : length two ≡ 16
  unfolding two
  two_long = length-append one (to_le 8 expiry) ∙ omega (arith, one_long, length_to_le 8 expiry)

  three_long : length three ≡ 20
  unfolding three
  three_long = length-append two (to_le 4 timeout) ∙ omega (arith, two_long, length_to_le 4 timeout)

  four_long : length four ≡ 52
  unfolding four
  four_long = length-append three (part send 0 32) ∙ omega (arith, three_long, length_part send 0 32 (omega arith))

  five_long : length five ≡ 84
  unfolding five
  five_long = length-append four (part receive 0 32) ∙ omega (arith, four_long, length_part receive 0 32 (omega arith))

  pub held_written : (h a b c d e f : List ℕ) → length h ≡ 340 → a ≡ splice h 0 (to_le 8 id) → b ≡ splice a 8 (to_le 8 expiry) → c ≡ splice b 16 (to_le 4 timeout)
      → d ≡ splice c 20 (part send 0 32) → e ≡ splice d 52 (part receive 0 32) → f ≡ splice e 84 (part user 0 256) → f ≡ held_token id expiry timeout send receive user
  unfolding held_token one two three four five
  held_written h a b c d e f long p₁ p₂ p₃ p₄ p₅ p₆ =
      let q₂ : b ≡ splice h 0 two = splice_then h a b 0 one 8 (to_le 8 expiry) p₁ p₂ (omega (arith, one_long)) (omega (arith, long, length_to_le 8 expiry)) in
      let q₃ : c ≡ splice h 0 three = splice_then h b c 0 two 16 (to_le 4 timeout) q₂ p₃ (omega (arith, two_long)) (omega (arith, long, length_to_le 4 timeout)) in
      let q₄ : d ≡ splice h 0 four = splice_then h c d 0 three 20 (part send 0 32) q₃ p₄ (omega (arith, three_long)) (omega (arith, long, length_part send 0 32 (omega arith))) in
      let q₅ : e ≡ splice h 0 five = splice_then h d e 0 four 52 (part receive 0 32) q₄ p₅ (omega (arith, four_long)) (omega (arith, long, length_part receive 0 32 (omega arith))) in
      let n : length (part user 0 256) ≡ 256 = length_part user 0 256 (omega arith) in
      splice_then h e f 0 five 84 (part user 0 256) q₅ p₆ (omega (arith, five_long)) (omega (arith, long))
      ∙ splice_whole h (five ++ part user 0 256) (length-append five (part user 0 256) ∙ omega (arith, long, five_long))

  held : List ℕ
  held = five ++ part user 0 256

  -- the first 84, 52, 20 and 16 bytes

  within_five : (at n : ℕ) → at + n ≤ 84 → part held at n ≡ part five at n
  unfolding held
  within_five at n h = part_left five (part user 0 256) at n (omega (arith, five_long))

  within_four : (at n : ℕ) → at + n ≤ 52 → part held at n ≡ part four at n
  unfolding five
  within_four at n h = within_five at n (omega arith) ∙ part_left four (part receive 0 32) at n (omega (arith, four_long))

  within_three : (at n : ℕ) → at + n ≤ 20 → part held at n ≡ part three at n
  unfolding four
  within_three at n h = within_four at n (omega arith) ∙ part_left three (part send 0 32) at n (omega (arith, three_long))

  within_two : (at n : ℕ) → at + n ≤ 16 → part held at n ≡ part two at n
  unfolding three
  within_two at n h = within_three at n (omega arith) ∙ part_left two (to_le 4 timeout) at n (omega (arith, two_long))

  -- what was held reads back

  pub held_user_data_lem : held_user_data (held_token id expiry timeout send receive user) ≡ user
  unfolding held_token held one two three four five
  held_user_data_lem = last_of five (part user 0 256) 84 256 five_long (length_part user 0 256 (omega arith)) ∙ part_whole user 256 u

  pub held_receive_key_lem : held_receive_key (held_token id expiry timeout send receive user) ≡ receive
  unfolding held_token held one two three four five
  held_receive_key_lem =
      within_five 52 32 (omega arith) ∙ last_of four (part receive 0 32) 52 32 four_long (length_part receive 0 32 (omega arith)) ∙ part_whole receive 32 r

  pub held_send_key_lem : held_send_key (held_token id expiry timeout send receive user) ≡ send
  unfolding held_token held one two three four five
  held_send_key_lem = within_four 20 32 (omega arith) ∙ last_of three (part send 0 32) 20 32 three_long (length_part send 0 32 (omega arith)) ∙ part_whole send 32 s

  pub held_timeout_lem : timeout < 256 ^ 4 → held_timeout (held_token id expiry timeout send receive user) ≡ timeout
  unfolding held_token held one two three four five
  held_timeout_lem h = ap of_le (within_three 16 4 (omega arith) ∙ last_of two (to_le 4 timeout) 16 4 two_long (length_to_le 4 timeout)) ∙ of_le_to_le 4 timeout h

  pub held_expiry_lem : expiry < 256 ^ 8 → held_expiry (held_token id expiry timeout send receive user) ≡ expiry
  unfolding held_token held one two three four five
  held_expiry_lem h = ap of_le (within_two 8 8 (omega arith) ∙ last_of one (to_le 8 expiry) 8 8 one_long (length_to_le 8 expiry)) ∙ of_le_to_le 8 expiry h

  pub held_id_lem : id < 256 ^ 8 → held_id (held_token id expiry timeout send receive user) ≡ id
  unfolding held_token held one two three four five
  held_id_lem h =
      ap of_le (within_two 0 8 (omega arith) ∙ part_left one (to_le 8 expiry) 0 8 (omega (arith, one_long)) ∙ part_whole one 8 one_long) ∙ of_le_to_le 8 id h

-- a challenge's id and user data, in bytes that held something else: those two read back, and the rest is as it was
module _ (h : List ℕ) (long : length h ≡ 340) (id : ℕ) (user : List ℕ) (u : length user ≡ 256) where
  first : List ℕ
  first = splice h 0 (to_le 8 id)

  first_long : length first ≡ 340
  unfolding first
  first_long = length_splice h 0 (to_le 8 id) (omega (arith, long, length_to_le 8 id)) ∙ long

  part_long : length (part user 0 256) ≡ 256
  part_long = length_part user 0 256 (omega arith)

  pub challenge_user_data : held_user_data (held_challenge h id user) ≡ user
  unfolding held_challenge first
  challenge_user_data =
      ap (λ (n : ℕ). part (held_challenge h id user) 84 n) (sym part_long)
      ∙ part_splice_same first 84 (part user 0 256) (omega (arith, first_long, part_long))
      ∙ part_whole user 256 u

  pub challenge_id : id < 256 ^ 8 → held_id (held_challenge h id user) ≡ id
  unfolding held_challenge first
  challenge_id b =
      let n : length (to_le 8 id) ≡ 8 = length_to_le 8 id in
      ap of_le
      (part_splice_before first 84 (part user 0 256) 0 8 (omega (arith, first_long, part_long)) (omega arith)
      ∙ ap (λ (k : ℕ). part first 0 k) (sym n)
      ∙ part_splice_same h 0 (to_le 8 id) (omega (arith, long)))
      ∙ of_le_to_le 8 id b

  pub challenge_rest : (at n : ℕ) → 8 ≤ at → at + n ≤ 84 → part (held_challenge h id user) at n ≡ part h at n
  unfolding held_challenge first
  challenge_rest at n a b =
      part_splice_before first 84 (part user 0 256) at n (omega (arith, first_long, part_long)) (omega arith)
      ∙ part_splice_after h 0 (to_le 8 id) at n (omega (arith, long)) (omega (arith, length_to_le 8 id))
