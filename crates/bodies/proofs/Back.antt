-- What is written reads back: a field of a body that was put together from fields is that field.
use Rattle.std.specs.Prelude.{Result, Ok, Err}
use mathlib.Core.Path.{◌≡◌, refl, sym, ap, ap₂, ◌∙◌}
use Prim.Native.Nat.{ℕ, ◌+◌, ◌^◌, ◌≤◌, ◌<◌}
use native.Mathlib.Omega.{arith}
use mathlib.Core.Logic.{◌≢◌}
use mathlib.Core.Bool.{true}
use mathlib.Core.List.{List, ◌++◌}
use lib.ListN.{length, length-append}
use lib.Dec.{eqb}
use borrow.Author.Tests.{le-ltb, ne_eqb, eqb-true, eqb-false}
use Rattle.serialize.specs.Choice.{pick}
use Rattle.serialize.specs.Runs.{part, splice, zeros}
use Rattle.serialize.specs.Le.{of_le, to_le}
use Rattle.serialize.proofs.Choice.{by_test}
use Rattle.serialize.proofs.Lists.{length_part, part_whole, part_left, part_right, part_add, part_splice_in}
use Rattle.serialize.proofs.Le.{length_to_le, of_le_to_le}
use Rattle.bodies.specs.declared.PacketType.{PacketType}
use Rattle.bodies.specs.declared.PacketType.TheVariants as kind
use Rattle.bodies.specs.declared.Packet.{Packet}
use Rattle.bodies.specs.declared.Packet.TheVariants.{ConnectionRequest, ConnectionDenied, Challenge, Response, KeepAlive, Payload, Disconnect}
use Rattle.bodies.specs.declared.challenge.ChallengeToken.{ChallengeToken}
use Rattle.bodies.specs.Kinds.{number_of, type_of, is_request}
use Rattle.bodies.specs.Tokens.{token, token_clear, token_at}
use Rattle.bodies.specs.Bodies.{kind_of, wants, takes, least, body_length, Ranged, request_body, token_body, keep_alive_body, body, numbers, beside, read_body}

-- ---- lengths

module _ (protocol expiry : ℕ) (bytes : List ℕ) (w : 1061 ≤ length bytes) where
  length_request : length (request_body protocol expiry bytes) ≡ 1077
  unfolding request_body
  length_request =
      let a : length (part bytes 0 13) ≡ 13 = length_part bytes 0 13 (omega arith) in
      let d : length (part bytes 13 1048) ≡ 1048 = length_part bytes 13 1048 (omega arith) in
      simp length-append (omega (arith, length_to_le 8 protocol, length_to_le 8 expiry))

length_token : (sequence : ℕ) (bytes : List ℕ) → 300 ≤ length bytes → length (token_body sequence bytes) ≡ 308
unfolding token_body
length_token sequence bytes w = simp length-append (omega (arith, length_to_le 8 sequence, length_part bytes 0 300 w))

length_keep_alive : (index maximum : ℕ) → length (keep_alive_body index maximum) ≡ 8
unfolding keep_alive_body
length_keep_alive index maximum = simp length-append (omega (arith, length_to_le 4 index, length_to_le 4 maximum))

pub length_body : (packet : Packet) (bytes : List ℕ) → wants (kind_of packet) ≤ length bytes → length (body packet bytes) ≡ body_length (kind_of packet) (length bytes)
length_body (ConnectionRequest protocol expiry) bytes w = length_request protocol expiry bytes w
length_body ConnectionDenied bytes w = refl
length_body (Challenge sequence) bytes w = length_token sequence bytes w
length_body (Response sequence) bytes w = length_token sequence bytes w
length_body (KeepAlive index maximum) bytes w = length_keep_alive index maximum
length_body Payload bytes w = refl
length_body Disconnect bytes w = refl

-- ---- types

-- a type's number gives back the type, and a number below 7 is that of its type
pub type_reads_back : (k : PacketType) → type_of (number_of k) ≡ Ok k
unfolding type_of pick
type_reads_back kind.ConnectionRequest = refl
type_reads_back kind.ConnectionDenied = refl
type_reads_back kind.Challenge = refl
type_reads_back kind.Response = refl
type_reads_back kind.KeepAlive = refl
type_reads_back kind.Payload = refl
type_reads_back kind.Disconnect = refl

-- ---- fields

-- the first of two lists, and a part of the second
first_of : (xs ys : List ℕ) (k : ℕ) → length xs ≡ k → part (xs ++ ys) 0 k ≡ xs
first_of xs ys k h = part_left xs ys 0 k (omega arith) ∙ part_whole xs k h

second_of_lem : (xs ys : List ℕ) (n b k : ℕ) → length xs ≡ n → part (xs ++ ys) (n + b) k ≡ part ys b k
second_of_lem xs ys n b k h = ap (λ (i : ℕ). part (xs ++ ys) (i + b) k) (sym h) ∙ part_right xs ys b k

module _ (protocol expiry : ℕ) (bytes : List ℕ) (w : 1061 ≤ length bytes) where
  request_protocol : part (request_body protocol expiry bytes) 13 8 ≡ to_le 8 protocol
  unfolding request_body
  request_protocol =
      second_of_lem (part bytes 0 13) (to_le 8 protocol ++ (to_le 8 expiry ++ part bytes 13 1048)) 13 0 8 (length_part bytes 0 13 (omega arith))
      ∙ first_of (to_le 8 protocol) (to_le 8 expiry ++ part bytes 13 1048) 8 (length_to_le 8 protocol)

  request_expiry : part (request_body protocol expiry bytes) 21 8 ≡ to_le 8 expiry
  unfolding request_body
  request_expiry =
      second_of_lem (part bytes 0 13) (to_le 8 protocol ++ (to_le 8 expiry ++ part bytes 13 1048)) 13 8 8 (length_part bytes 0 13 (omega arith))
      ∙ second_of_lem (to_le 8 protocol) (to_le 8 expiry ++ part bytes 13 1048) 8 0 8 (length_to_le 8 protocol)
      ∙ first_of (to_le 8 expiry) (part bytes 13 1048) 8 (length_to_le 8 expiry)

  request_beside : beside kind.ConnectionRequest (request_body protocol expiry bytes) ≡ part bytes 0 1061
  unfolding request_body
  request_beside =
      let rest : List ℕ = part bytes 13 1048 in
      ap₂ (λ (a b : List ℕ). a ++ b)
      (first_of (part bytes 0 13) (to_le 8 protocol ++ (to_le 8 expiry ++ rest)) 13 (length_part bytes 0 13 (omega arith)))
      (second_of_lem (part bytes 0 13) (to_le 8 protocol ++ (to_le 8 expiry ++ rest)) 13 16 1048 (length_part bytes 0 13 (omega arith))
      ∙ second_of_lem (to_le 8 protocol) (to_le 8 expiry ++ rest) 8 8 1048 (length_to_le 8 protocol)
      ∙ second_of_lem (to_le 8 expiry) rest 8 0 1048 (length_to_le 8 expiry)
      ∙ part_whole rest 1048 (length_part bytes 13 1048 (omega arith)))
      ∙ sym (part_add bytes 0 13 1048)

module _ (sequence : ℕ) (bytes : List ℕ) (w : 300 ≤ length bytes) where
  token_number : part (token_body sequence bytes) 0 8 ≡ to_le 8 sequence
  unfolding token_body
  token_number = first_of (to_le 8 sequence) (part bytes 0 300) 8 (length_to_le 8 sequence)

  token_beside : part (token_body sequence bytes) 8 300 ≡ part bytes 0 300
  unfolding token_body
  token_beside = second_of_lem (to_le 8 sequence) (part bytes 0 300) 8 0 300 (length_to_le 8 sequence) ∙ part_whole (part bytes 0 300) 300 (length_part bytes 0 300 w)

module _ (index maximum : ℕ) where
  keep_alive_index : part (keep_alive_body index maximum) 0 4 ≡ to_le 4 index
  unfolding keep_alive_body
  keep_alive_index = first_of (to_le 4 index) (to_le 4 maximum) 4 (length_to_le 4 index)

  keep_alive_maximum : part (keep_alive_body index maximum) 4 4 ≡ to_le 4 maximum
  unfolding keep_alive_body
  keep_alive_maximum = second_of_lem (to_le 4 index) (to_le 4 maximum) 4 0 4 (length_to_le 4 index) ∙ part_whole (to_le 4 maximum) 4 (length_to_le 4 maximum)

-- a field that was written as a number reads as the number
number_of_lem : (l : List ℕ) (k v : ℕ) → l ≡ to_le k v → v < 256 ^ k → of_le l ≡ v
number_of_lem l k v e h = ap of_le e ∙ of_le_to_le k v h

-- ---- theorems

-- the numbers that a packet's body says are the packet's
pub numbers_read_back : (packet : Packet) (bytes : List ℕ) → Ranged packet → wants (kind_of packet) ≤ length bytes → numbers (kind_of packet) (body packet bytes) ≡ packet
numbers_read_back (ConnectionRequest protocol expiry) bytes r w =
    ap₂ ConnectionRequest
    (number_of_lem _ 8 protocol (request_protocol protocol expiry bytes w) r.0)
    (number_of_lem _ 8 expiry (request_expiry protocol expiry bytes w) r.1)
numbers_read_back ConnectionDenied bytes r w = refl
numbers_read_back (Challenge sequence) bytes r w = ap Challenge (number_of_lem _ 8 sequence (token_number sequence bytes w) r)
numbers_read_back (Response sequence) bytes r w = ap Response (number_of_lem _ 8 sequence (token_number sequence bytes w) r)
numbers_read_back (KeepAlive index maximum) bytes r w =
    ap₂ KeepAlive (number_of_lem _ 4 index (keep_alive_index index maximum) r.0) (number_of_lem _ 4 maximum (keep_alive_maximum index maximum) r.1)
numbers_read_back Payload bytes r w = refl
numbers_read_back Disconnect bytes r w = refl

-- and those are the bytes that stand beside them in the body
pub beside_reads_back : (packet : Packet) (bytes : List ℕ) → wants (kind_of packet) ≤ length bytes → beside (kind_of packet) (body packet bytes) ≡ part bytes 0 (takes (kind_of packet) (length bytes))
beside_reads_back (ConnectionRequest protocol expiry) bytes w = request_beside protocol expiry bytes w
beside_reads_back ConnectionDenied bytes w = refl
beside_reads_back (Challenge sequence) bytes w = token_beside sequence bytes w
beside_reads_back (Response sequence) bytes w = token_beside sequence bytes w
beside_reads_back (KeepAlive index maximum) bytes w = refl
beside_reads_back Payload bytes w = sym (part_whole bytes (length bytes) refl)
beside_reads_back Disconnect bytes w = refl

least_body : (k : PacketType) (n : ℕ) → least k ≤ body_length k n
least_body kind.ConnectionRequest n = omega arith
least_body kind.ConnectionDenied n = omega arith
least_body kind.Challenge n = omega arith
least_body kind.Response n = omega arith
least_body kind.KeepAlive n = omega arith
least_body kind.Payload n = omega arith
least_body kind.Disconnect n = omega arith

-- so a body that was written is read, as the same packet
pub body_reads_back : (packet : Packet) (bytes : List ℕ) → Ranged packet → wants (kind_of packet) ≤ length bytes → read_body (kind_of packet) (body packet bytes) ≡ Ok packet
unfolding read_body pick
body_reads_back packet bytes r w =
    let n : length (body packet bytes) ≡ body_length (kind_of packet) (length bytes) = length_body packet bytes w in
    simp (le-ltb (length (body packet bytes)) (least (kind_of packet)) (omega (arith, least_body (kind_of packet) (length bytes)))) (ap Ok (numbers_read_back packet bytes r w))

-- ---- which numbers are types

-- two known types are one, and none is unknown
is : {n : ℕ} (i : ℕ) (a k : PacketType) → eqb n i ≡ true → ◌≡◌ {A = Result PacketType ℕ} (Ok a) (Ok k) → number_of a ≡ i → n ≡ number_of k
is {n} i a k e f g = let same : a ≡ k = cc in eqb-true n i e ∙ sym g ∙ ap number_of same

no_type : (k : PacketType) → ◌≡◌ {A = Result PacketType ℕ} (Err 2) (Ok k) → ⊥
no_type k e = let z : ◌≡◌ {A = ℕ} 0 1 = cc in omega arith

-- a number whose type is k is k's, and one without a type is over 6
module _ (n : ℕ) where
  pub typed_number : (k : PacketType) → type_of n ≡ Ok k → n ≡ number_of k
  unfolding type_of pick
  typed_number k h =
      by_test (eqb n 0) (λ e. is 0 kind.ConnectionRequest k e (simp e at h) refl) (λ e0.
      by_test (eqb n 1) (λ e. is 1 kind.ConnectionDenied k e (simp (e0, e) at h) refl) (λ e1.
      by_test (eqb n 2) (λ e. is 2 kind.Challenge k e (simp (e0, e1, e) at h) refl) (λ e2.
      by_test (eqb n 3) (λ e. is 3 kind.Response k e (simp (e0, e1, e2, e) at h) refl) (λ e3.
      by_test (eqb n 4) (λ e. is 4 kind.KeepAlive k e (simp (e0, e1, e2, e3, e) at h) refl) (λ e4.
      by_test (eqb n 5) (λ e. is 5 kind.Payload k e (simp (e0, e1, e2, e3, e4, e) at h) refl) (λ e5.
      by_test (eqb n 6) (λ e. is 6 kind.Disconnect k e (simp (e0, e1, e2, e3, e4, e5, e) at h) refl) (λ e6.
      absurd (no_type k (simp (e0, e1, e2, e3, e4, e5, e6) at h)))))))))

  above : (i : ℕ) → i ≤ n → n ≢ i → i + 1 ≤ n
  above i h d = omega arith

  pub untyped_number : type_of n ≡ Err 2 → 6 < n
  unfolding type_of pick
  untyped_number h =
      by_test (eqb n 0) (λ e. absurd (no_type _ (sym (simp e at h)))) (λ e0.
      by_test (eqb n 1) (λ e. absurd (no_type _ (sym (simp (e0, e) at h)))) (λ e1.
      by_test (eqb n 2) (λ e. absurd (no_type _ (sym (simp (e0, e1, e) at h)))) (λ e2.
      by_test (eqb n 3) (λ e. absurd (no_type _ (sym (simp (e0, e1, e2, e) at h)))) (λ e3.
      by_test (eqb n 4) (λ e. absurd (no_type _ (sym (simp (e0, e1, e2, e3, e) at h)))) (λ e4.
      by_test (eqb n 5) (λ e. absurd (no_type _ (sym (simp (e0, e1, e2, e3, e4, e) at h)))) (λ e5.
      by_test (eqb n 6) (λ e. absurd (no_type _ (sym (simp (e0, e1, e2, e3, e4, e5, e) at h)))) (λ e6.
      above 6 (above 5 (above 4 (above 3 (above 2 (above 1 (above 0 (omega arith) (eqb-false n 0 e0)) (eqb-false n 1 e1)) (eqb-false n 2 e2)) (eqb-false n 3 e3)) (eqb-false n 4 e4)) (eqb-false n 5 e5)) (eqb-false n 6 e6))))))))

  pub number_untyped : 6 < n → type_of n ≡ Err 2
  unfolding type_of pick
  number_untyped h =
      simp (
        ne_eqb n 0 (λ e. omega arith),
        ne_eqb n 1 (λ e. omega arith),
        ne_eqb n 2 (λ e. omega arith),
        ne_eqb n 3 (λ e. omega arith),
        ne_eqb n 4 (λ e. omega arith),
        ne_eqb n 5 (λ e. omega arith),
        ne_eqb n 6 (λ e. omega arith),
      )

-- a request's body has 1,077 bytes at least
pub request_least : (k : PacketType) → is_request k ≡ true → least k ≡ 1077
request_least kind.ConnectionRequest e = refl
request_least kind.ConnectionDenied e = absurd (let z : ◌≡◌ {A = ℕ} 0 1 = cc in omega arith)
request_least kind.Challenge e = absurd (let z : ◌≡◌ {A = ℕ} 0 1 = cc in omega arith)
request_least kind.Response e = absurd (let z : ◌≡◌ {A = ℕ} 0 1 = cc in omega arith)
request_least kind.KeepAlive e = absurd (let z : ◌≡◌ {A = ℕ} 0 1 = cc in omega arith)
request_least kind.Payload e = absurd (let z : ◌≡◌ {A = ℕ} 0 1 = cc in omega arith)
request_least kind.Disconnect e = absurd (let z : ◌≡◌ {A = ℕ} 0 1 = cc in omega arith)

-- ---- the challenge token

pub length_clear : (t : ChallengeToken) → length t.user_data ≡ 256 → length (token_clear t) ≡ 284
unfolding token_clear
length_clear t u = let z : length (zeros 20) ≡ 20 = refl in simp length-append (omega (arith, length_to_le 8 t.client_id))

-- a token that was written is read as the same token
pub token_reads_back : (l : List ℕ) (at : ℕ) (t : ChallengeToken) → at + 284 ≤ length l → t.client_id < 256 ^ 8 → length t.user_data ≡ 256
    → token_at (splice l at (token_clear t)) at ≡ t
unfolding token_at token_clear
token_reads_back l at t h i u =
    let id : List ℕ = to_le 8 t.client_id in
    let user : List ℕ = t.user_data in
    let n : length (token_clear t) ≡ 284 = length_clear t u in
    let z : at ≡ at + 0 = omega arith in
    ap₂ token
    (ap (λ (k : ℕ). of_le (part (splice l at (token_clear t)) k 8)) z
    ∙ ap of_le (part_splice_in l at (token_clear t) 0 8 (omega arith) (omega arith) ∙ first_of id (user ++ zeros 20) 8 (length_to_le 8 t.client_id))
    ∙ of_le_to_le 8 t.client_id i)
    (part_splice_in l at (token_clear t) 8 256 (omega arith) (omega arith)
    ∙ second_of_lem id (user ++ zeros 20) 8 0 256 (length_to_le 8 t.client_id)
    ∙ first_of user (zeros 20) 256 u)
