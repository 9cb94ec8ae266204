-- Each refusal is given exactly when document 01's table says: a line of the table decides the definition's tests up to its own, and
-- the tests, taken one by one, always come to a line or to no refusal.
use mathlib.Core.Path.{◌≡◌, refl, sym, ap, subst, ◌∙◌}
use mathlib.Core.Logic.{inl, inr, ◌≢◌}
use mathlib.Core.Bool.{Bool, true, false, not, ◌&&◌}
use Prim.Native.Nat.{ℕ, ◌+◌, ◌-◌, ◌%◌, ◌^◌, ◌≤◌, ◌<◌}
use native.Mathlib.Omega.{arith}
use mathlib.Core.List.{List}
use Rattle.std.specs.Prelude.{Option, Some, None, is_some, Result, Ok, Err}
use lib.ListN.{length, get_or}
use lib.Dec.{eqb, ltb, leb}
use borrow.Author.Tests.{lt-ltb, le-ltb, lt-leb, le-leb, eq-eqb, ne_eqb, ltb-true, ltb-false, leb-true, leb-false, eqb-false}
use Rattle.serialize.specs.Choice.{pick}
use Rattle.serialize.specs.Runs.{part}
use Rattle.serialize.proofs.Choice.{by_test}
use Rattle.serialize.proofs.Lists.{length_part}
use Rattle.replay_protection.specs.declared.ReplayProtection.{ReplayProtection}
use Rattle.replay_protection.specs.Replay.{refusal_by, refuses}
use Rattle.replay_protection.specs.Ours.{width, window_of}
use Rattle.bodies.specs.declared.PacketType.{PacketType}
use Rattle.bodies.specs.declared.Packet.{Packet}
use Rattle.bodies.specs.declared.challenge.ChallengeToken.{ChallengeToken}
use Rattle.bodies.specs.Kinds.{type_of, windowed, is_request}
use Rattle.bodies.specs.Bodies.{kind_of, least, wants, numbers, read_body}
use Rattle.bodies.proofs.Back.{type_reads_back, typed_number, untyped_number, number_untyped, request_least}
use Rattle.decode.specs.declared.Opened.{Opened}
use Rattle.decode.specs.declared.Decoded.{Decoded}
use Rattle.decode.specs.declared.Decoding.TheVariants as decoding
use Rattle.encode.specs.declared.Encoding.TheVariants as encoding
use Rattle.decode.specs.declared.Proving.TheVariants as proving
use Rattle.asks.specs.Asks.{no_ask, unlike, key_bytes}
use Rattle.encode.specs.Encodes.{Done, done, encoded_as, open_at, refused_by, need, unencodable, written_as, encode, answer_seal_open, answer_seal}
use Rattle.decode.specs.Decodes.{decoded_as, ended, opening_as, type_at, count_of, sequence_of, start_at, window_refusal, guard_refusal, guard_accepts, by_body, read_opened, decode_at, by_start, decode_of, by_kind, decode, answer_opened, answer_open}
use Rattle.encode.specs.Generates.{generate_challenge}
use Rattle.decode.specs.Challenges.{proof_as, unproved, decode_challenge, answer_proof}
use Rattle.packet.specs.Table.{Iff, Typed, Keyed, Passes, DecodeSays, says_1, says_2, says_9, says_3, says_4, says_5, says_6, says_7, Lent, OpenSays, opens_18, opens_8, opens_9, MayWrite, EncodeSays, encodes_3, encodes_14, encodes_9, SealSays, seals_18, seals_24, ProofSays, proves_18, proves_8, Refusals}
use Rattle.asks.proofs.Lent.{like_means}
use Rattle.decode.proofs.Ways.{sealed_keyed, sealed_keyless}
use Rattle.encode.proofs.Ways.{lacks_key, lacks_room, lacks_bytes, lacks_nothing}

-- ---- answers that differ

differ : false ≡ true → ⊥
differ e = let z : ◌≡◌ {A = ℕ} 0 1 = cc in omega arith

not_asked : {n : ℕ} → decoding.Asked ≡ decoding.Refused n → ⊥
not_asked e = let z : ◌≡◌ {A = ℕ} 0 1 = cc in omega arith

not_read : {n : ℕ} {x : Opened} → decoding.Read x ≡ decoding.Refused n → ⊥
not_read e = let z : ◌≡◌ {A = ℕ} 0 1 = cc in omega arith

same_refusal : {m n : ℕ} → encoding.Refused m ≡ encoding.Refused n → m ≡ n
same_refusal e = cc

not_length : {m n : ℕ} → encoding.Length m ≡ encoding.Refused n → ⊥
not_length e = let z : ◌≡◌ {A = ℕ} 0 1 = cc in omega arith

not_asked_seal : {n : ℕ} → encoding.Asked ≡ encoding.Refused n → ⊥
not_asked_seal e = let z : ◌≡◌ {A = ℕ} 0 1 = cc in omega arith

same_proof : {m n : ℕ} → proving.Refused m ≡ proving.Refused n → m ≡ n
same_proof e = cc

not_asked_proof : {n : ℕ} → proving.Asked ≡ proving.Refused n → ⊥
not_asked_proof e = let z : ◌≡◌ {A = ℕ} 0 1 = cc in omega arith

not_proved : {n : ℕ} → proving.Proved ≡ proving.Refused n → ⊥
not_proved e = let z : ◌≡◌ {A = ℕ} 0 1 = cc in omega arith

same_number : {m n : ℕ} → decoding.Refused m ≡ decoding.Refused n → m ≡ n
same_number e = cc

same_window : {w v : ReplayProtection} → ◌≡◌ {A = Option ReplayProtection} (Some w) (Some v) → w ≡ v
same_window e = cc

none_some : {A : Type 0} {x : A} → ◌≡◌ {A = Option A} None (Some x) → ⊥
none_some e = let z : ◌≡◌ {A = ℕ} 0 1 = cc in omega arith

no_type : {k : PacketType} {m : ℕ} → ◌≡◌ {A = Result PacketType ℕ} (Ok k) (Err m) → ⊥
no_type e = let z : ◌≡◌ {A = ℕ} 0 1 = cc in omega arith

-- a number that is no type is refused as 2
untyped : {m : ℕ} (n : ℕ) → type_of n ≡ Err m → type_of n ≡ Err 2
unfolding type_of pick
untyped n h =
    by_test (eqb n 0) (λ e. absurd (no_type (simp e at h))) (λ e0.
    by_test (eqb n 1) (λ e. absurd (no_type (simp (e0, e) at h))) (λ e1.
    by_test (eqb n 2) (λ e. absurd (no_type (simp (e0, e1, e) at h))) (λ e2.
    by_test (eqb n 3) (λ e. absurd (no_type (simp (e0, e1, e2, e) at h))) (λ e3.
    by_test (eqb n 4) (λ e. absurd (no_type (simp (e0, e1, e2, e3, e) at h))) (λ e4.
    by_test (eqb n 5) (λ e. absurd (no_type (simp (e0, e1, e2, e3, e4, e) at h))) (λ e5.
    by_test (eqb n 6) (λ e. absurd (no_type (simp (e0, e1, e2, e3, e4, e5, e) at h))) (λ e6.
    simp (e0, e1, e2, e3, e4, e5, e6))))))))

-- ---- the window's number

window_5 : (guard : Option ReplayProtection) (sequence : ℕ) → 2 ^ 64 ≤ sequence + width → window_refusal guard sequence ≡ 5
unfolding window_refusal refusal_by pick
window_5 (Some window) sequence h = simp (le-leb (2 ^ 64) (sequence + width) h)
window_5 None sequence h = simp (le-leb (2 ^ 64) (sequence + width) h)

window_0 : (guard : Option ReplayProtection) (sequence : ℕ) → sequence + width < 2 ^ 64 → ((window : ReplayProtection) → guard ≡ Some window → refuses width (window_of window) sequence ≡ false)
    → window_refusal guard sequence ≡ 0
unfolding window_refusal refusal_by pick
window_0 (Some window) sequence h f = simp (lt-leb (2 ^ 64) (sequence + width) h, f window refl)
window_0 None sequence h f = simp (lt-leb (2 ^ 64) (sequence + width) h)

module _ (guard : Option ReplayProtection) (kind : PacketType) (sequence : ℕ) where
  guard_5 : windowed kind ≡ true → 2 ^ 64 ≤ sequence + width → guard_refusal kind guard sequence ≡ 5
  unfolding guard_refusal pick
  guard_5 w h = simp w (window_5 guard sequence h)

  guard_6 : (window : ReplayProtection) → windowed kind ≡ true → sequence + width < 2 ^ 64 → guard ≡ Some window → refuses width (window_of window) sequence ≡ true → guard_refusal kind guard sequence ≡ 6
  unfolding guard_refusal window_refusal refusal_by pick
  guard_6 window w h e r = simp (w, e, lt-leb (2 ^ 64) (sequence + width) h, r)

  guard_0 : Passes guard kind sequence → guard_refusal kind guard sequence ≡ 0
  unfolding guard_refusal pick
  guard_0 p = by_test (windowed kind) (λ w. simp w (window_0 guard sequence (p.below w) (λ window e. p.fresh window w e))) (λ w. simp w)

-- ---- decode

module _ (d : List ℕ) (protocol : ℕ) (key : Option (List ℕ)) (guard : Option ReplayProtection) where
  -- what decode comes to for a datagram of a type
  decode_typed : (kind : PacketType) → Typed d kind → decode d protocol key guard ≡ decode_of d kind protocol key guard
  unfolding decode type_at pick
  decode_typed kind t = simp (le-ltb (length d) 18 t.long) (ap (by_kind d protocol key guard) (ap type_of t.type ∙ type_reads_back kind))

  -- of a sealed type, with a key and at most 8 sequence bytes
  decode_keyed : (kind : PacketType) → Keyed d (is_some key) kind → decode d protocol key guard ≡ by_start d kind protocol (key_bytes key) guard (start_at d)
  unfolding decode_of pick
  decode_keyed kind k = decode_typed kind k.typed ∙ simp k.sealed (sealed_keyed d kind protocol key guard k.given)

  decode_started : (kind : PacketType) → Keyed d (is_some key) kind → count_of d ≤ 8 → decode d protocol key guard ≡ decode_at d kind protocol (key_bytes key) (sequence_of d) (1 + count_of d) guard
  unfolding start_at pick
  decode_started kind k h = decode_keyed kind k ∙ simp (le-ltb 8 (count_of d) h)

  -- by the window's number
  decode_guarded : (kind : PacketType) (n : ℕ) → Keyed d (is_some key) kind → count_of d ≤ 8 → guard_refusal kind guard (sequence_of d) ≡ n → n ≢ 0 → decode d protocol key guard ≡ ended (decoding.Refused n) guard
  unfolding decode_at pick
  decode_guarded kind n k h e z = decode_started kind k h ∙ simp (e, ne_eqb n 0 z)

  -- a line of the table gives its number
  says_given : (n : ℕ) → DecodeSays d (is_some key) guard n → decode d protocol key guard ≡ ended (decoding.Refused n) guard
  unfolding decode decode_of decode_at type_at start_at read_opened read_body pick
  says_given n (says_1 h) = simp (lt-ltb (length d) 18 h)
  says_given n (says_2 h o) = simp (le-ltb (length d) 18 h, number_untyped (get_or d 0 0 % 16) o)
  says_given n (says_9 kind t r h) =
      let long : 18 ≤ length d = t.long in
      let m : length (part d 1 (length d - 1)) ≡ length d - 1 = length_part d 1 (length d - 1) (omega arith) in
      let l : least kind ≡ 1077 = request_least kind r in
      decode_typed kind t ∙ simp (r, lt-ltb (length (part d 1 (length d - 1))) (least kind) (omega arith))
  says_given n (says_3 kind t r k) = decode_typed kind t ∙ simp r (sealed_keyless d kind protocol key guard k)
  says_given n (says_4 kind k h) = decode_keyed kind k ∙ simp (lt-ltb 8 (count_of d) h)
  says_given n (says_5 kind k h w o) = decode_guarded kind 5 k h (guard_5 guard kind (sequence_of d) w o) (λ e. omega arith)
  says_given n (says_6 kind window k h w o e r) = decode_guarded kind 6 k h (guard_6 guard kind (sequence_of d) window w o e r) (λ z. omega arith)
  says_given n (says_7 kind k h p o) =
      decode_started kind k h ∙ simp (eq-eqb (guard_refusal kind guard (sequence_of d)) 0 (guard_0 guard kind (sequence_of d) p), lt-ltb (length d) (1 + count_of d + 16) o)

  -- a datagram meets a line, or is not refused
  data Verdict : Type 0 where
    line : (n : ℕ) → DecodeSays d (is_some key) guard n → Verdict
    none : ((n : ℕ) → (decode d protocol key guard).answer ≡ decoding.Refused n → ⊥) → Verdict

  past_request : (kind : PacketType) → Typed d kind → is_request kind ≡ true → Verdict
  unfolding decode_of read_opened read_body pick
  past_request kind t r =
      let long : 18 ≤ length d = t.long in
      let m : length (part d 1 (length d - 1)) ≡ length d - 1 = length_part d 1 (length d - 1) (omega arith) in
      let l : least kind ≡ 1077 = request_least kind r in
      by_test (ltb (length d) 1078)
      (λ e. line 9 (says_9 kind t r (ltb-true (length d) 1078 e)))
      (λ e.
      let o : 1078 ≤ length d = ltb-false (length d) 1078 e in
      let f : (decode d protocol key guard).answer ≡ by_body 0 1 (length d) (Ok (numbers kind (part d 1 (length d - 1)))) =
      ap (λ (x : Decoded). x.answer) (decode_typed kind t) ∙ simp (r, le-ltb (length (part d 1 (length d - 1))) (least kind) (omega arith)) in
      none (λ n g. not_read (sym f ∙ g)))

  past_window : (kind : PacketType) → Keyed d (is_some key) kind → count_of d ≤ 8 → Passes guard kind (sequence_of d) → Verdict
  unfolding decode_at pick
  past_window kind k h p =
      by_test (ltb (length d) (1 + count_of d + 16))
      (λ e. line 7 (says_7 kind k h p (ltb-true (length d) (1 + count_of d + 16) e)))
      (λ e.
      let f : (decode d protocol key guard).answer ≡ decoding.Asked =
      ap (λ (x : Decoded). x.answer) (decode_started kind k h) ∙ simp (eq-eqb (guard_refusal kind guard (sequence_of d)) 0 (guard_0 guard kind (sequence_of d) p), e) in
      none (λ n g. not_asked (sym f ∙ g)))

  past_guard : (kind : PacketType) → Keyed d (is_some key) kind → count_of d ≤ 8 → windowed kind ≡ true → sequence_of d + width < 2 ^ 64
      → (g : Option ReplayProtection) → guard ≡ g → Verdict
  past_guard kind k h w o (Some window) e =
      by_test (refuses width (window_of window) (sequence_of d))
      (λ r. line 6 (says_6 kind window k h w o e r))
      (λ r. past_window kind k h (record {
        below = λ x. o;
        fresh = λ v x y. let z : window ≡ v = same_window (sym e ∙ y) in subst (λ (p : ReplayProtection). refuses width (window_of p) (sequence_of d) ≡ false) z r;
      }))
  past_guard kind k h w o None e = past_window kind k h (record { below = λ x. o; fresh = λ v x y. absurd (none_some (sym e ∙ y)) })

  past_head : (kind : PacketType) → Keyed d (is_some key) kind → count_of d ≤ 8 → Verdict
  past_head kind k h =
      let s : ℕ = sequence_of d in
      by_test (windowed kind)
      (λ w. by_test (leb (2 ^ 64) (s + width))
      (λ e. line 5 (says_5 kind k h w (leb-true (2 ^ 64) (s + width) e)))
      (λ e. past_guard kind k h w (leb-false (2 ^ 64) (s + width) e) guard refl))
      (λ w. past_window kind k h (record { below = λ x. absurd (differ (sym w ∙ x)); fresh = λ v x y. absurd (differ (sym w ∙ x)) }))

  past_key : (kind : PacketType) → Keyed d (is_some key) kind → Verdict
  past_key kind k =
      by_test (ltb 8 (count_of d)) (λ e. line 4 (says_4 kind k (ltb-true 8 (count_of d) e))) (λ e. past_head kind k (ltb-false 8 (count_of d) e))

  past_length : 18 ≤ length d → (t : Result PacketType ℕ) → type_of (get_or d 0 0 % 16) ≡ t → Verdict
  past_length h (Err n) e = line 2 (says_2 h (untyped_number (get_or d 0 0 % 16) (untyped (get_or d 0 0 % 16) e)))
  past_length h (Ok kind) e =
      let t : Typed d kind = record { long = h; type = typed_number (get_or d 0 0 % 16) kind e } in
      by_test (is_request kind)
      (λ r. past_request kind t r)
      (λ r. by_test (is_some key)
      (λ g. past_key kind (record { typed = t; sealed = r; given = g }))
      (λ g. line 3 (says_3 kind t r g)))

  verdict : Verdict
  verdict = by_test (ltb (length d) 18) (λ e. line 1 (says_1 (ltb-true (length d) 18 e))) (λ e. past_length (ltb-false (length d) 18 e) (type_of (get_or d 0 0 % 16)) refl)

  settle : (n : ℕ) → Verdict → (decode d protocol key guard).answer ≡ decoding.Refused n → DecodeSays d (is_some key) guard n
  settle n (line m s) e = subst (λ (x : ℕ). DecodeSays d (is_some key) guard x) (same_number (sym (ap (λ (x : Decoded). x.answer) (says_given m s)) ∙ e)) s
  settle n (none f) e = absurd (f n e)

  -- decode refuses by n exactly when the table says n; and it then leaves the window as it was, and no ask open
  pub decode_exactly : (n : ℕ) → Iff ((decode d protocol key guard).answer ≡ decoding.Refused n) (DecodeSays d (is_some key) guard n)
  decode_exactly n = (settle n verdict, λ s. ap (λ (x : Decoded). x.answer) (says_given n s))

  pub decode_keeps : (n : ℕ) → (decode d protocol key guard).answer ≡ decoding.Refused n → decode d protocol key guard ≡ ended (decoding.Refused n) guard
  decode_keeps n e = says_given n (settle n verdict e)

-- ---- what an answer lends

module _ (at n len room : ℕ) where
  lent_like : Lent at n len room → unlike at n len room ≡ false
  lent_like l = simp (eq-eqb room len l.same, le-ltb len (at + n) l.there)

  like_lent : unlike at n len room ≡ false → Lent at n len room
  like_lent e = let m = like_means at n len room e in record { same = m.0; there = m.1 }

  lent_unlike : (Lent at n len room → ⊥) → unlike at n len room ≡ true
  lent_unlike f = by_test (unlike at n len room) (λ e. e) (λ e. absurd (f (like_lent e)))

  unlike_lent : unlike at n len room ≡ true → Lent at n len room → ⊥
  unlike_lent e l = differ (sym (lent_like l) ∙ e)

-- ---- the host's answer to an ask to open

module _ (kind : PacketType) (sequence start len : ℕ) (d : List ℕ) (guard : Option ReplayProtection) (granted : Bool) where
  -- the body is what the ask's part has but for the tag
  body_length_lem : Lent start 16 len (length d) → length (part d start (len - 16 - start)) ≡ len - 16 - start
  body_length_lem l = let s : length d ≡ len = l.same in let t : start + 16 ≤ len = l.there in length_part d start (len - 16 - start) (omega arith)

  opens_given : (n : ℕ) → OpenSays kind start len (length d) granted n → (answer_opened kind sequence start len d guard granted).answer ≡ decoding.Refused n
  unfolding answer_opened read_opened read_body pick
  opens_given n (opens_18 f) = simp (lent_unlike start 16 len (length d) f)
  opens_given n (opens_8 l g) = simp (lent_like start 16 len (length d) l, g)
  opens_given n (opens_9 l g h) =
      simp (lent_like start 16 len (length d) l, g, lt-ltb (length (part d start (len - 16 - start))) (least kind) (rw (body_length_lem l) h))

  opens_says : (n : ℕ) → (answer_opened kind sequence start len d guard granted).answer ≡ decoding.Refused n → OpenSays kind start len (length d) granted n
  unfolding answer_opened read_opened read_body pick
  opens_says n e =
      let says : ℕ → Type 0 = OpenSays kind start len (length d) granted in
      by_test (unlike start 16 len (length d))
      (λ u. subst says (same_number (simp u at e)) (opens_18 (unlike_lent start 16 len (length d) u)))
      (λ u.
      let l : Lent start 16 len (length d) = like_lent start 16 len (length d) u in
      by_test granted
      (λ g. by_test (ltb (length (part d start (len - 16 - start))) (least kind))
      (λ s. subst says (same_number (simp (u, g, s) at e)) (opens_9 l g (rw (body_length_lem l) at (ltb-true (length (part d start (len - 16 - start))) (least kind) s))))
      (λ s. absurd (not_read (simp (u, g, s) at e))))
      (λ g. subst says (same_number (simp (u, g) at e)) (opens_8 l g)))

  -- an answer is refused by n exactly when the table says n
  pub open_exactly : (n : ℕ) → Iff ((answer_open (Some (opening_as kind sequence start len)) d guard granted).answer ≡ decoding.Refused n) (OpenSays kind start len (length d) granted n)
  open_exactly n = (opens_says n, opens_given n)

  -- 18 leaves the ask open and the window as it was; a no leaves the window; a yes moves it, whether the body is short or not
  pub unlike_stays : (Lent start 16 len (length d) → ⊥) → answer_open (Some (opening_as kind sequence start len)) d guard granted ≡ decoded_as (decoding.Refused 18) no_ask (Some (opening_as kind sequence start len)) guard
  unfolding answer_opened pick
  unlike_stays f = simp (lent_unlike start 16 len (length d) f)

  pub no_keeps_window : granted ≡ false → (answer_open (Some (opening_as kind sequence start len)) d guard granted).guard ≡ guard
  unfolding answer_opened pick
  no_keeps_window g = by_test (unlike start 16 len (length d)) (λ u. simp (u, g)) (λ u. simp (u, g))

  pub yes_moves_window : granted ≡ true → Lent start 16 len (length d) → (answer_open (Some (opening_as kind sequence start len)) d guard granted).guard ≡ guard_accepts kind guard sequence
  unfolding answer_opened pick
  yes_moves_window g l = simp (lent_like start 16 len (length d) l, g)

-- ---- encode

module _ (room : ℕ) (kind : PacketType) (given : ℕ) (keyed : Bool) (sequence : ℕ) where
  may_write : MayWrite kind keyed → not keyed && not (is_request kind) ≡ false
  may_write (inl k) = simp k
  may_write (inr r) = by_test keyed (λ k. simp k) (λ k. simp (k, r))

  may_not : not keyed && not (is_request kind) ≡ false → MayWrite kind keyed
  may_not e = by_test keyed (λ k. inl k) (λ k. by_test (is_request kind) (λ r. inr r) (λ r. absurd (differ (sym (simp (k, r) at e)))))

  encodes_given : (n : ℕ) → EncodeSays room kind given keyed sequence n → unencodable room kind given keyed sequence ≡ n
  encodes_given n (encodes_3 r k) = sym (lacks_key room kind given keyed sequence (simp (r, k)))
  encodes_given n (encodes_14 m h) = sym (lacks_room room kind given keyed sequence (may_write m) h)
  encodes_given n (encodes_9 m f h) = sym (lacks_bytes room kind given keyed sequence (may_write m) f h)

  past_3 : {n : ℕ} → n ≢ 0 → unencodable room kind given keyed sequence ≡ n → MayWrite kind keyed → EncodeSays room kind given keyed sequence n
  past_3 {n} z h m =
      let says : ℕ → Type 0 = EncodeSays room kind given keyed sequence in
      let wanted : ℕ = need kind given sequence in
      by_test (ltb room wanted)
      (λ e. let r : room < wanted = ltb-true room wanted e in subst says (lacks_room room kind given keyed sequence (may_write m) r ∙ h) (encodes_14 m r))
      (λ e.
      let r : wanted ≤ room = ltb-false room wanted e in
      by_test (ltb given (wants kind))
      (λ f. let b : given < wants kind = ltb-true given (wants kind) f in subst says (lacks_bytes room kind given keyed sequence (may_write m) r b ∙ h) (encodes_9 m r b))
      (λ f. absurd (z (sym h ∙ sym (lacks_nothing room kind given keyed sequence (may_write m) r (ltb-false given (wants kind) f))))))

  encodes_says : (n : ℕ) → n ≢ 0 → unencodable room kind given keyed sequence ≡ n → EncodeSays room kind given keyed sequence n
  encodes_says n z h =
      let says : ℕ → Type 0 = EncodeSays room kind given keyed sequence in
      by_test keyed
      (λ k. past_3 z h (inl k))
      (λ k. by_test (is_request kind) (λ r. past_3 z h (inr r)) (λ r. subst says (lacks_key room kind given keyed sequence (simp (k, r)) ∙ h) (encodes_3 r k)))

says_some : {room : ℕ} {kind : PacketType} {given : ℕ} {keyed : Bool} {sequence n : ℕ} → EncodeSays room kind given keyed sequence n → n ≢ 0
says_some (encodes_3 r k) z = omega arith
says_some (encodes_14 m h) z = omega arith
says_some (encodes_9 m f h) z = omega arith

module _ (out : List ℕ) (packet : Packet) (bytes : List ℕ) (protocol : ℕ) (key : Option (List ℕ)) (sequence : ℕ) where
  -- the number that refuses, if any
  number : ℕ
  number = unencodable (length out) (kind_of packet) (length bytes) (is_some key) sequence

  refused_by_lem : number ≢ 0 → encode out packet bytes protocol key sequence ≡ done (refused_by number) out
  unfolding encode pick number
  refused_by_lem z = simp (ne_eqb number 0 z)

  says_number : (n : ℕ) → (encode out packet bytes protocol key sequence).encoded.answer ≡ encoding.Refused n → (number ≡ n) × (n ≢ 0)
  unfolding encode written_as pick number
  says_number n e =
      by_test (eqb number 0)
      (λ u. by_test (is_request (kind_of packet)) (λ r. absurd (not_length (simp (u, r) at e))) (λ r. absurd (not_asked_seal (simp (u, r) at e))))
      (λ u. let m : number ≡ n = same_refusal (simp u at e) in (m, λ z. eqb-false number 0 u (m ∙ z)))

  -- encode refuses by n exactly when the table says n
  pub encode_exactly : (n : ℕ) → Iff ((encode out packet bytes protocol key sequence).encoded.answer ≡ encoding.Refused n) (EncodeSays (length out) (kind_of packet) (length bytes) (is_some key) sequence n)
  unfolding number
  encode_exactly n = (
    (λ e. let m = says_number n e in encodes_says (length out) (kind_of packet) (length bytes) (is_some key) sequence n m.1 m.0),
    (λ s.
        let m : number ≡ n = encodes_given (length out) (kind_of packet) (length bytes) (is_some key) sequence n s in
        let z : n ≢ 0 = says_some s in
        ap (λ (x : Done). x.encoded.answer) (refused_by_lem (λ e. z (sym m ∙ e))) ∙ ap encoding.Refused m),
  )

  -- and then leaves the buffer as it was
  pub encode_keeps : (n : ℕ) → (encode out packet bytes protocol key sequence).encoded.answer ≡ encoding.Refused n → (encode out packet bytes protocol key sequence).out ≡ out
  encode_keeps n e = let m = says_number n e in ap (λ (x : Done). x.out) (refused_by_lem (λ z. m.1 (sym m.0 ∙ z)))

-- ---- the host's answer to an ask to seal

module _ (end len : ℕ) (room : ℕ) (granted : Bool) where
  -- an answer is refused by n exactly when the table says n
  seals_given : (n : ℕ) → SealSays end len room granted n → (answer_seal_open end len room granted).answer ≡ encoding.Refused n
  unfolding answer_seal_open pick
  seals_given n (seals_18 f) = simp (lent_unlike end 0 len room f)
  seals_given n (seals_24 l g) = simp (lent_like end 0 len room l, g)

  seals_says : (n : ℕ) → (answer_seal_open end len room granted).answer ≡ encoding.Refused n → SealSays end len room granted n
  unfolding answer_seal_open pick
  seals_says n e =
      let says : ℕ → Type 0 = SealSays end len room granted in
      by_test (unlike end 0 len room)
      (λ u. subst says (same_refusal (simp u at e)) (seals_18 (unlike_lent end 0 len room u)))
      (λ u. by_test granted
      (λ g. absurd (not_length (simp (u, g) at e)))
      (λ g. subst says (same_refusal (simp (u, g) at e)) (seals_24 (like_lent end 0 len room u) g)))

  seal_keeps : (Lent end 0 len room → ⊥) → answer_seal (open_at end len) room granted ≡ encoded_as (encoding.Refused 18) no_ask (open_at end len)
  unfolding answer_seal_open pick
  seal_keeps f = simp (lent_unlike end 0 len room f)

  pub seal_exactly : (n : ℕ) → Iff ((answer_seal (open_at end len) room granted).answer ≡ encoding.Refused n) (SealSays end len room granted n)
  seal_exactly n = (seals_says n, seals_given n)

-- ---- the challenge token

module _ (out : List ℕ) (at : ℕ) (t : ChallengeToken) (sequence : ℕ) (key : List ℕ) where
  generate_exactly : (n : ℕ) → Iff ((generate_challenge out at t sequence key).encoded.answer ≡ encoding.Refused n) ((n ≡ 14) × (length out < at + 300))
  unfolding generate_challenge pick
  generate_exactly n = (
    (λ e. by_test (ltb (length out) (at + 300))
        (λ u. (sym (same_refusal (simp u at e)), ltb-true (length out) (at + 300) u))
        (λ u. absurd (not_asked_seal (simp u at e)))),
    (λ p. simp (lt-ltb (length out) (at + 300) p.1) (ap encoding.Refused (sym p.0))),
  )

  generate_keeps : length out < at + 300 → (generate_challenge out at t sequence key).out ≡ out
  unfolding generate_challenge pick
  generate_keeps h = simp (lt-ltb (length out) (at + 300) h)

demand_exactly : (room at sequence : ℕ) (key : List ℕ) (n : ℕ) → Iff ((decode_challenge room at sequence key).answer ≡ proving.Refused n) ((n ≡ 9) × (room < at + 300))
unfolding decode_challenge pick
demand_exactly room at sequence key n = (
  (λ e. by_test (ltb room (at + 300))
      (λ u. (sym (same_proof (simp u at e)), ltb-true room (at + 300) u))
      (λ u. absurd (not_asked_proof (simp u at e)))),
  (λ p. simp (lt-ltb room (at + 300) p.1) (ap proving.Refused (sym p.0))),
)

module _ (at len : ℕ) (src : List ℕ) (granted : Bool) where
  proves_given : (n : ℕ) → ProofSays at len (length src) granted n → (answer_proof at len src granted).answer ≡ proving.Refused n
  unfolding answer_proof pick
  proves_given n (proves_18 f) = simp (lent_unlike at 300 len (length src) f)
  proves_given n (proves_8 l g) = simp (lent_like at 300 len (length src) l, g)

  proves_says : (n : ℕ) → (answer_proof at len src granted).answer ≡ proving.Refused n → ProofSays at len (length src) granted n
  unfolding answer_proof pick
  proves_says n e =
      let says : ℕ → Type 0 = ProofSays at len (length src) granted in
      by_test (unlike at 300 len (length src))
      (λ u. subst says (same_proof (simp u at e)) (proves_18 (unlike_lent at 300 len (length src) u)))
      (λ u. by_test granted
      (λ g. absurd (not_proved (simp (u, g) at e)))
      (λ g. subst says (same_proof (simp (u, g) at e)) (proves_8 (like_lent at 300 len (length src) u) g)))

  proves_keeps : (Lent at 300 len (length src) → ⊥) → answer_proof at len src granted ≡ unproved 18 (Some (proof_as at len))
  unfolding answer_proof pick
  proves_keeps f = simp (lent_unlike at 300 len (length src) f)

-- ---- the one statement

pub refusals : Refusals
refusals = record {
  decodes = decode_exactly;
  decodes_nothing = decode_keeps;
  opens_none = λ d guard granted. refl;
  opens = open_exactly;
  opens_stays = unlike_stays;
  opens_no = λ kind sequence start len d guard. no_keeps_window kind sequence start len d guard false refl;
  opens_yes = λ kind sequence start len d guard l. yes_moves_window kind sequence start len d guard true refl l;
  encodes = encode_exactly;
  encodes_nothing = encode_keeps;
  seals_none = λ room granted. refl;
  seals = seal_exactly;
  seals_stays = seal_keeps;
  generates = generate_exactly;
  generates_nothing = generate_keeps;
  demands = demand_exactly;
  proves_none = λ src granted. refl;
  proves = λ at len src granted n. (proves_says at len src granted n, proves_given at len src granted n);
  proves_stays = proves_keeps;
}
