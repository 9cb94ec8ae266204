-- What encode writes and an honest host seals, decode reads back: head, sealed part and text stand where each side looks for them.
use mathlib.Core.Path.{◌≡◌, refl, sym, ap, ap₂, subst, subst⁻¹, ◌∙◌}
use mathlib.Core.Bool.{Bool, true, false, not, ◌&&◌}
use Prim.Native.Nat.{ℕ, ◌+◌, ◌-◌, ◌%◌, ◌^◌, ◌≤◌, ◌<◌}
use native.Mathlib.Nat.{add-zero}
use native.Mathlib.Omega.{arith}
use mathlib.Core.List.{List, ◌∷◌, ◌++◌}
use Rattle.std.specs.Prelude.{Option, Some, None, is_some, Result, Ok}
use lib.ListN.{length, take, length-append}
use lib.Seq.{take_at}
use lib.Dec.{eqb}
use borrow.Author.Tests.{lt-ltb, le-ltb, eq-eqb, eqb-true}
use Rattle.serialize.specs.Choice.{pick}
use Rattle.serialize.specs.Runs.{part, splice}
use Rattle.serialize.specs.Le.{of_le, to_le}
use Rattle.serialize.proofs.Choice.{by_test}
use Rattle.serialize.proofs.Lists.{part_whole, part_right, length_splice, part_splice_in, part_splice_same, splice_splice, splice_over}
use Rattle.serialize.proofs.Le.{length_to_le, of_le_to_le}
use Rattle.prefix.specs.Head.{fewest, prefix_byte, head_bytes}
use Rattle.prefix.specs.Sealed.{additional_data, packet_nonce}
use Rattle.prefix.proofs.Fewest.{fewest_means, fewest_le, fewest_none}
use Rattle.bodies.specs.declared.PacketType.{PacketType}
use Rattle.bodies.specs.declared.PacketType.TheVariants as kind
use Rattle.bodies.specs.declared.Packet.{Packet}
use Rattle.bodies.specs.declared.Packet.TheVariants.{ConnectionRequest}
use Rattle.replay_protection.specs.declared.ReplayProtection.{ReplayProtection}
use Rattle.bodies.specs.Kinds.{number_of, type_of, is_request}
use Rattle.bodies.specs.Bodies.{kind_of, wants, body_length, Ranged, body, beside, read_body}
use Rattle.bodies.proofs.Back.{length_body, type_reads_back, body_reads_back, beside_reads_back}
use Rattle.asks.specs.declared.Ask.{Ask}
use Rattle.asks.specs.declared.Work.TheVariants as work
use Rattle.decode.specs.declared.Start.{Start}
use Rattle.decode.specs.declared.Decoding.TheVariants as decoding
use Rattle.decode.specs.Decodes.{decoded_as, ended, opening_as, start_as, type_at, count_of, sequence_of, start_at, guard_refusal, guard_accepts, opened, read_opened, decode_at, by_start, decode_sealed, decode_of, by_kind, decode, answer_opened, answer_open}
use Rattle.asks.specs.Asks.{no_ask, packet_ask, key_bytes}
use Rattle.encode.specs.declared.Encoding.TheVariants as encoding
use Rattle.encode.specs.Encodes.{Done, done, encoded_as, open_at, shown, tag_places, need, unencodable, written_as, encode}
use Rattle.packet.specs.Hosts.{Host, sent, ReadBack}
use Rattle.decode.proofs.Ways.{sealed_keyed}
use Rattle.encode.proofs.Ways.{lacks_nothing, encodable}

-- ---- a datagram: a head of a type and a sequence, and what follows it

number_below : (k : PacketType) → number_of k < 16
number_below kind.ConnectionRequest = omega arith
number_below kind.ConnectionDenied = omega arith
number_below kind.Challenge = omega arith
number_below kind.Response = omega arith
number_below kind.KeepAlive = omega arith
number_below kind.Payload = omega arith
number_below kind.Disconnect = omega arith

abbrev started : ℕ → ℕ → Result Start ℕ
started sequence start = Ok (start_as sequence start)

module _ (k : PacketType) (sequence : ℕ) (rest : List ℕ) where
  reads_type : 18 ≤ length (head_bytes (number_of k) sequence ++ rest) → type_at (head_bytes (number_of k) sequence ++ rest) ≡ Ok k
  unfolding type_at pick
  reads_type long =
      let b : ℕ = prefix_byte (number_of k) (fewest sequence) in
      let n : b % 16 ≡ number_of k = omega (arith, number_below k) in
      simp (le-ltb (length (head_bytes (number_of k) sequence ++ rest)) 18 long) (ap type_of n ∙ type_reads_back k)

  reads_count : count_of (head_bytes (number_of k) sequence ++ rest) ≡ fewest sequence
  reads_count = omega arith

  reads_sequence : sequence < 256 ^ 8 → sequence_of (head_bytes (number_of k) sequence ++ rest) ≡ sequence
  reads_sequence h =
      let d : List ℕ = head_bytes (number_of k) sequence ++ rest in
      let f : ℕ = fewest sequence in
      ap (λ (n : ℕ). of_le (part d 1 n)) reads_count
      ∙ ap of_le (take_at (to_le f sequence) rest f (length_to_le f sequence))
      ∙ of_le_to_le f sequence (fewest_means sequence h).holds

  reads_start : sequence < 256 ^ 8 → start_at (head_bytes (number_of k) sequence ++ rest) ≡ Ok (start_as sequence (1 + fewest sequence))
  unfolding start_at pick
  reads_start h =
      let d : List ℕ = head_bytes (number_of k) sequence ++ rest in
      simp (le-ltb 8 (count_of d) (omega (arith, reads_count, fewest_le sequence h))) (ap₂ started (reads_sequence h) (ap (λ (n : ℕ). 1 + n) reads_count))

  length_datagram : length (head_bytes (number_of k) sequence ++ rest) ≡ 1 + fewest sequence + length rest
  length_datagram =
      let n : length (to_le (fewest sequence) sequence) ≡ fewest sequence = length_to_le (fewest sequence) sequence in
      omega (arith, length-append (head_bytes (number_of k) sequence) rest)

  seal_there : part (head_bytes (number_of k) sequence ++ rest) (1 + fewest sequence) (length (head_bytes (number_of k) sequence ++ rest) - (1 + fewest sequence)) ≡ rest
  seal_there =
      let head : List ℕ = head_bytes (number_of k) sequence in
      let n : length (head ++ rest) ≡ 1 + fewest sequence + length rest = length_datagram in
      let l : length (head ++ rest) - (1 + fewest sequence) ≡ length rest = omega arith in
      let z : 1 + fewest sequence ≡ length head + 0 = omega (arith, length_to_le (fewest sequence) sequence) in
      ap₂ (λ (i m : ℕ). part (head ++ rest) i m) z l ∙ part_right head rest 0 (length rest) ∙ part_whole rest (length rest) refl

  text_there : (text : List ℕ) → length rest ≡ length text + 16
      → part (splice (head_bytes (number_of k) sequence ++ rest) (1 + fewest sequence) text) (1 + fewest sequence) (length (head_bytes (number_of k) sequence ++ rest) - 16 - (1 + fewest sequence)) ≡ text
  text_there text m =
      let d : List ℕ = head_bytes (number_of k) sequence ++ rest in
      let at : ℕ = 1 + fewest sequence in
      let n : length d ≡ at + length rest = length_datagram in
      let l : length d - 16 - at ≡ length text = omega arith in
      ap (part (splice d at text) at) l ∙ part_splice_same d at text (omega arith)

  -- so it is asked for, with the rest as the sealed part
  reads_asks : (protocol : ℕ) (key : Option (List ℕ)) (guard : Option ReplayProtection) → 18 ≤ length (head_bytes (number_of k) sequence ++ rest) → sequence < 256 ^ 8 → 16 ≤ length rest
      → is_request k ≡ false → (is_some key) ≡ true → guard_refusal k guard sequence ≡ 0
      → decode (head_bytes (number_of k) sequence ++ rest) protocol key guard
      ≡ decoded_as decoding.Asked
      (packet_ask work.Open (key_bytes key) sequence (prefix_byte (number_of k) (fewest sequence)) protocol (1 + fewest sequence) (length (head_bytes (number_of k) sequence ++ rest)))
      (Some (opening_as k sequence (1 + fewest sequence) (length (head_bytes (number_of k) sequence ++ rest)))) guard
  unfolding decode decode_of decode_sealed decode_at pick
  reads_asks protocol key guard long below tag request keyed passes =
      let d : List ℕ = head_bytes (number_of k) sequence ++ rest in
      let n : length d ≡ 1 + fewest sequence + length rest = length_datagram in
      ap (by_kind d protocol key guard) (reads_type long)
      ∙ simp request (sealed_keyed d k protocol key guard keyed)
      ∙ (ap (by_start d k protocol (key_bytes key) guard) (reads_start below)
      ∙ simp (eq-eqb (guard_refusal k guard sequence) 0 passes, le-ltb (length d) (1 + fewest sequence + 16) (omega arith)))

  -- and after a yes that gave text, the body is the text, whatever stood there
  reads_text : (guard : Option ReplayProtection) (text : List ℕ) (packet : Packet) → length rest ≡ length text + 16 → read_body k text ≡ Ok packet
      → answer_open (Some (opening_as k sequence (1 + fewest sequence) (length (head_bytes (number_of k) sequence ++ rest)))) (splice (head_bytes (number_of k) sequence ++ rest) (1 + fewest sequence) text) guard true
      ≡ ended (decoding.Read (opened sequence packet (1 + fewest sequence) (length (head_bytes (number_of k) sequence ++ rest) - 16))) (guard_accepts k guard sequence)
  unfolding answer_opened read_opened pick
  reads_text guard text packet m whole =
      let d : List ℕ = head_bytes (number_of k) sequence ++ rest in
      let at : ℕ = 1 + fewest sequence in
      let n : length d ≡ at + length rest = length_datagram in
      let e : length (splice d at text) ≡ length d = length_splice d at text (omega arith) in
      let there : part (splice d at text) at (length d - 16 - at) ≡ text = text_there text m in
      simp (eq-eqb (length (splice d at text)) (length d) e, le-ltb (length d) (at + 16) (omega arith), there, whole)

-- ---- what was written and sealed is such a datagram

module _ (out head text seal : List ℕ) (start end : ℕ) (heads : length head ≡ start) (tags : length seal ≡ length text + 16) (ends : end ≡ start + length text + 16) (fits : end ≤ length out) where
  -- the text stands where the seal is asked for
  text_written : part (splice out 0 (head ++ text)) start (end - 16 - start) ≡ text
  text_written =
      let n : length (head ++ text) ≡ length head + length text = length-append head text in
      let l : end - 16 - start ≡ length text = omega arith in
      let z : start ≡ 0 + length head = omega arith in
      ap (part (splice out 0 (head ++ text)) start) l
      ∙ ap (λ (i : ℕ). part (splice out 0 (head ++ text)) i (length text)) z
      ∙ part_splice_in out 0 (head ++ text) (length head) (length text) (omega arith) (omega arith)
      ∙ ap (λ (i : ℕ). part (head ++ text) i (length text)) (sym (add-zero (length head)))
      ∙ part_right head text 0 (length text)
      ∙ part_whole text (length text) refl

  -- and with the seal in its place the datagram is head and seal
  seal_written : part (splice (splice out 0 (head ++ text)) start seal) 0 end ≡ head ++ seal
  seal_written =
      let n : length (head ++ seal) ≡ length head + length seal = length-append head seal in
      let l : length (splice out 0 head) ≡ length out = length_splice out 0 head (omega arith) in
      let e : end ≡ length (head ++ seal) = omega arith in
      let z : 0 + length head ≡ start = omega arith in
      let w : splice (splice out 0 (head ++ text)) start seal ≡ splice out 0 (head ++ seal) =
      ap (λ (t : List ℕ). splice t start seal) (sym (splice_splice out 0 head text (omega arith)) ∙ ap (λ (i : ℕ). splice (splice out 0 head) i text) z)
      ∙ splice_over (splice out 0 head) start text seal (omega arith) (omega arith)
      ∙ ap (λ (i : ℕ). splice (splice out 0 head) i seal) (sym z)
      ∙ splice_splice out 0 head seal (omega arith) in
      ap₂ (λ (t : List ℕ) (i : ℕ). part t 0 i) w e ∙ part_splice_same out 0 (head ++ seal) (omega arith)

-- ---- theorems

clash : {n : ℕ} → encoding.Length n ≡ encoding.Asked → ⊥
clash e = let z : ◌≡◌ {A = ℕ} 0 1 = cc in omega arith

clash' : {n : ℕ} → encoding.Refused n ≡ encoding.Asked → ⊥
clash' e = let z : ◌≡◌ {A = ℕ} 0 1 = cc in omega arith

-- a sealed packet's head shows its sequence, and it has 16 tag places
sealed_need : (k : PacketType) (given sequence : ℕ) → is_request k ≡ false → need k given sequence ≡ 1 + fewest sequence + body_length k given + 16
unfolding shown tag_places pick
sealed_need k given sequence e = simp e

fewest_zero : fewest 0 ≡ 0
fewest_zero = sym (fewest_none 0 (omega arith))

keyed_key : (b : Bool) → not b && true ≡ false → b ≡ true
keyed_key true e = refl
keyed_key false e = sym e

module _ (h : Host) (out : List ℕ) (packet : Packet) (bytes : List ℕ) (protocol : ℕ) (key : Option (List ℕ)) (sequence : ℕ)
    (asked : (encode out packet bytes protocol key sequence).encoded.answer ≡ encoding.Asked) where
  -- an encode that asks has a sealed packet, a key, the bytes and the room
  pub asked_means : (is_request (kind_of packet) ≡ false) × (((is_some key) ≡ true) × ((need (kind_of packet) (length bytes) sequence ≤ length out) × (wants (kind_of packet) ≤ length bytes)))
  unfolding encode written_as pick
  asked_means =
      let kind : PacketType = kind_of packet in
      let u : ℕ = unencodable (length out) kind (length bytes) (is_some key) sequence in
      by_test (eqb u 0)
      (λ e.
      let (keyed, room) = encodable (length out) kind (length bytes) (is_some key) sequence (eqb-true u 0 e) in
      by_test (is_request kind)
      (λ f. absurd (clash (simp (e, f) at asked)))
      (λ f. (f, (keyed_key (is_some key) (simp f at keyed), room))))
      (λ e. absurd (clash' (simp e at asked)))

  -- the seal of its body: under the key, the sequence as nonce, with version, protocol and prefix byte
  seal_of : List ℕ
  seal_of = h.seal (key_bytes key) (packet_nonce sequence) (take 22 (additional_data (prefix_byte (number_of (kind_of packet)) (fewest sequence)) protocol)) (body packet bytes)

  -- what it comes to, with the figures of a sealed packet
  encode_asks : encode out packet bytes protocol key sequence
      ≡ done (encoded_as encoding.Asked
      (packet_ask work.Seal (key_bytes key) sequence (prefix_byte (number_of (kind_of packet)) (fewest sequence)) protocol (1 + fewest sequence) (1 + fewest sequence + body_length (kind_of packet) (length bytes) + 16))
      (open_at (1 + fewest sequence + body_length (kind_of packet) (length bytes) + 16) (length out)))
      (splice out 0 (head_bytes (number_of (kind_of packet)) sequence ++ body packet bytes))
  unfolding encode written_as shown tag_places pick
  encode_asks =
      let kind : PacketType = kind_of packet in
      let (request, rest) = asked_means in
      let keyed : not (is_some key) && not (is_request kind) ≡ false = simp rest.0 in
      simp (eq-eqb (unencodable (length out) kind (length bytes) (is_some key) sequence) 0 (sym (lacks_nothing (length out) kind (length bytes) (is_some key) sequence keyed rest.1.0 rest.1.1)), request)

  -- the datagram is the head and that seal
  sent_is : sent h (encode out packet bytes protocol key sequence) ≡ head_bytes (number_of (kind_of packet)) sequence ++ seal_of
  unfolding seal_of
  sent_is =
      let kind : PacketType = kind_of packet in
      let room = asked_means.1.1 in
      let text : List ℕ = body packet bytes in
      let head : List ℕ = head_bytes (number_of kind) sequence in
      let start : ℕ = 1 + fewest sequence in
      let end : ℕ = start + body_length kind (length bytes) + 16 in
      let f : List ℕ → List ℕ = h.seal (key_bytes key) (packet_nonce sequence) (take 22 (additional_data (prefix_byte (number_of kind) (fewest sequence)) protocol)) in
      let a : length head ≡ start = omega (arith, length_to_le (fewest sequence) sequence) in
      let b : length text ≡ body_length kind (length bytes) = length_body packet bytes room.1 in
      let c : need kind (length bytes) sequence ≡ end = sealed_need kind (length bytes) sequence asked_means.0 in
      let t : length (f text) ≡ length text + 16 = h.tagged _ _ _ text in
      let e : end ≡ start + length text + 16 = omega arith in
      let fits : end ≤ length out = omega arith in
      ap (sent h) encode_asks
      ∙ ap (λ (x : List ℕ). part (splice (splice out 0 (head ++ text)) start (f x)) 0 end) (text_written out head text (f text) start end a t e fits)
      ∙ seal_written out head text (f text) start end a t e fits

  length_seal : length seal_of ≡ length (body packet bytes) + 16
  unfolding seal_of
  length_seal = h.tagged _ _ _ (body packet bytes)

  pub length_sent : length (sent h (encode out packet bytes protocol key sequence)) ≡ 1 + fewest sequence + length (body packet bytes) + 16
  length_sent =
      ap length sent_is
      ∙ length_datagram (kind_of packet) sequence seal_of
      ∙ (let t : length seal_of ≡ length (body packet bytes) + 16 = length_seal in omega arith)

  -- for every type and sequence: a datagram of 18 bytes or more whose sequence the window does not refuse is read back
  pub round_trip : (guard : Option ReplayProtection) → Ranged packet → sequence < 256 ^ 8 → guard_refusal (kind_of packet) guard sequence ≡ 0
      → 18 ≤ length (sent h (encode out packet bytes protocol key sequence))
      → ReadBack h packet bytes protocol key sequence guard (encode out packet bytes protocol key sequence).encoded.ask (sent h (encode out packet bytes protocol key sequence))
  unfolding seal_of
  round_trip guard ranged below passes long =
      let kind : PacketType = kind_of packet in
      let start : ℕ = 1 + fewest sequence in
      let end : ℕ = start + body_length kind (length bytes) + 16 in
      let p : ℕ = prefix_byte (number_of kind) (fewest sequence) in
      let d : List ℕ = head_bytes (number_of kind) sequence ++ seal_of in
      let text : List ℕ = body packet bytes in
      let (request, rest) = asked_means in
      let t : length seal_of ≡ length text + 16 = length_seal in
      let b : length text ≡ body_length kind (length bytes) = length_body packet bytes rest.1.1 in
      let n : length d ≡ start + length seal_of = length_datagram kind sequence seal_of in
      let ends : length d ≡ end = omega arith in
      let here : part d start (end - start) ≡ seal_of = ap (λ (i : ℕ). part d start (i - start)) (sym ends) ∙ seal_there kind sequence seal_of in
      subst⁻¹ (λ (x : List ℕ). ReadBack h packet bytes protocol key sequence guard (encode out packet bytes protocol key sequence).encoded.ask x) sent_is
      (subst⁻¹ (λ (a : Ask). ReadBack h packet bytes protocol key sequence guard a d) (ap (λ (x : Done). x.encoded.ask) encode_asks)
      (record {
        asks =
            reads_asks kind sequence seal_of protocol key guard (rw sent_is at long) below (omega arith) request rest.0 passes
            ∙ ap (λ (i : ℕ). decoded_as decoding.Asked (packet_ask work.Open (key_bytes key) sequence p protocol start i) (Some (opening_as kind sequence start (length d))) guard) ends;
        agrees = ap (h.opens (key_bytes key) (packet_nonce sequence) (take 22 (additional_data p protocol))) here ∙ h.honest _ _ _ text;
        reads = reads_text kind sequence seal_of guard text packet t (body_reads_back packet bytes ranged rest.1.1);
        holds = ap (beside kind) (text_there kind sequence seal_of text t) ∙ beside_reads_back packet bytes rest.1.1;
      }))

  -- a datagram of fewer has 17, and is refused as 1: that is a packet with an empty body at sequence 0, so a denied, a disconnect or a
  -- payload of no bytes; and each such packet comes to that
  pub seventeen : sequence < 256 ^ 8 → ((length (body packet bytes) ≡ 0) × (sequence ≡ 0) → length (sent h (encode out packet bytes protocol key sequence)) ≡ 17)
      × (length (sent h (encode out packet bytes protocol key sequence)) < 18 → (length (body packet bytes) ≡ 0) × (sequence ≡ 0))
  seventeen below =
      let n = length_sent in
      let w = fewest_means sequence below in (
        (λ p. let z : fewest sequence ≡ 0 = ap fewest p.1 ∙ fewest_zero in let e : length (body packet bytes) ≡ 0 = p.0 in omega arith),
        (λ p. let z : fewest sequence ≡ 0 = omega arith in let v : sequence < 256 ^ 0 = subst (λ (k : ℕ). sequence < 256 ^ k) z w.holds in (omega arith, omega arith)),
      )

-- a datagram under 18 bytes is refused as 1, whatever it holds
pub short_refused : (d : List ℕ) (protocol : ℕ) (key : Option (List ℕ)) (guard : Option ReplayProtection) → length d < 18 → decode d protocol key guard ≡ ended (decoding.Refused 1) guard
unfolding decode type_at pick
short_refused d protocol key guard h = simp (lt-ltb (length d) 18 h)

never_lacks : (b : Bool) → not b && false ≡ false
never_lacks true = refl
never_lacks false = refl

module _ (protocol expiry : ℕ) (bytes : List ℕ) (enough : 1061 ≤ length bytes) where
  -- a request's body, and its datagram
  requested : List ℕ
  requested = body (ConnectionRequest protocol expiry) bytes

  length_requested : length (0 ∷ requested) ≡ 1078
  unfolding requested
  length_requested = omega (arith, length_body (ConnectionRequest protocol expiry) bytes enough)

  request_encodes : (out : List ℕ) (id sequence : ℕ) (key : Option (List ℕ)) → 1078 ≤ length out
      → encode out (ConnectionRequest protocol expiry) bytes id key sequence ≡ done (encoded_as (encoding.Length 1078) no_ask None) (splice out 0 (0 ∷ requested))
  unfolding encode written_as shown tag_places pick requested to_le
  request_encodes out id sequence key room =
      let n : need kind.ConnectionRequest (length bytes) sequence ≡ 1078 = omega (arith, fewest_zero) in
      let e : unencodable (length out) kind.ConnectionRequest (length bytes) (is_some key) sequence ≡ 0 =
      sym (lacks_nothing (length out) kind.ConnectionRequest (length bytes) (is_some key) sequence (never_lacks (is_some key)) (omega arith) enough) in
      simp (eq-eqb (unencodable (length out) kind.ConnectionRequest (length bytes) (is_some key) sequence) 0 e, fewest_zero)

  request_decodes : (id : ℕ) (key : Option (List ℕ)) (guard : Option ReplayProtection) → Ranged (ConnectionRequest protocol expiry)
      → decode (0 ∷ requested) id key guard ≡ ended (decoding.Read (opened 0 (ConnectionRequest protocol expiry) 1 1078)) guard
  unfolding decode decode_of type_at read_opened pick type_of requested
  request_decodes id key guard ranged =
      let n : length (0 ∷ requested) ≡ 1078 = length_requested in
      let m : length requested ≡ 1077 = omega arith in
      let w : read_body kind.ConnectionRequest (part (0 ∷ requested) 1 1077) ≡ Ok (ConnectionRequest protocol expiry) =
      ap (read_body kind.ConnectionRequest) (part_whole requested 1077 m) ∙ body_reads_back (ConnectionRequest protocol expiry) bytes ranged enough in
      simp (n, w)

-- a request, with a key or without one, under any sequence: 1,078 bytes and no ask, and they are read back as the same request
pub request_trip : (out : List ℕ) (protocol expiry : ℕ) (bytes : List ℕ) (id sequence : ℕ) (key key' : Option (List ℕ)) (guard : Option ReplayProtection) → 1078 ≤ length out → 1061 ≤ length bytes
    → Ranged (ConnectionRequest protocol expiry) →
    let d : List ℕ = part (encode out (ConnectionRequest protocol expiry) bytes id key sequence).out 0 1078 in
    ((encode out (ConnectionRequest protocol expiry) bytes id key sequence).encoded ≡ encoded_as (encoding.Length 1078) no_ask None)
    × ((decode d id key' guard ≡ ended (decoding.Read (opened 0 (ConnectionRequest protocol expiry) 1 1078)) guard)
    × (beside kind.ConnectionRequest (part d 1 1077) ≡ part bytes 0 1061))
unfolding requested
request_trip out protocol expiry bytes id sequence key key' guard room enough ranged =
    let e = request_encodes protocol expiry bytes enough out id sequence key room in
    let b : List ℕ = requested protocol expiry bytes enough in
    let n : length (0 ∷ b) ≡ 1078 = length_requested protocol expiry bytes enough in
    let m : length b ≡ 1077 = omega arith in
    let same : part (encode out (ConnectionRequest protocol expiry) bytes id key sequence).out 0 1078 ≡ 0 ∷ b =
    ap (λ (x : Done). part x.out 0 1078) e ∙ ap (part (splice out 0 (0 ∷ b)) 0) (sym n) ∙ part_splice_same out 0 (0 ∷ b) (omega arith) in (
      ap (λ (x : Done). x.encoded) e,
      (
        ap (λ (x : List ℕ). decode x id key' guard) same ∙ request_decodes protocol expiry bytes enough id key' guard ranged,
        ap (λ (x : List ℕ). beside kind.ConnectionRequest (part x 1 1077)) same ∙ ap (beside kind.ConnectionRequest) (part_whole b 1077 m) ∙ beside_reads_back (ConnectionRequest protocol expiry) bytes enough,
      ),
    )
