-- What is laid out on the desk and beside it, field after field: each law puts the callees' equations together.
use mathlib.Core.Path.{◌≡◌, refl, sym, ap, ◌∙◌}
use Prim.Native.Nat.{ℕ, ◌≤◌, ◌<◌}
use mathlib.Core.Bool.{Bool}
use mathlib.Core.List.{List}
use Rattle.std.specs.Prelude.{Result, Ok, Err, Option}
use lib.ListN.{length}
use borrow.Author.Tests.{lt-ltb, le-ltb}
use Rattle.serialize.specs.Choice.{pick}
use Rattle.serialize.specs.Runs.{part, splice, zeros}
use Rattle.serialize.proofs.Lists.{part_whole}
use Rattle.replay_protection.specs.declared.ReplayProtection.{ReplayProtection}
use Rattle.bodies.specs.declared.PacketType.{PacketType}
use Rattle.bodies.specs.declared.Packet.{Packet}
use Rattle.bodies.specs.Kinds.{type_of}
use Rattle.asks.specs.declared.Ask.{Ask}
use Rattle.encode.specs.declared.Encoded.{Encoded}
use Rattle.encode.specs.Encodes.{Done, done, encode}
use Rattle.decode.specs.declared.Opening.{Opening}
use Rattle.decode.specs.declared.Decoded.{Decoded}
use Rattle.decode.specs.declared.ProofOpening.{ProofOpening}
use Rattle.decode.specs.declared.Challenged.{Challenged}
use Rattle.decode.specs.Decodes.{decode, answer_open}
use Rattle.decode.specs.Challenges.{answer_challenge}
use Rattle.calls.specs.Heads.{written}
use Rattle.calls.specs.Desk.{told_of, kept_on, encoded_desk, refused_desk, packet_of, decoded_desk, opening_of, challenged_desk, proof_opening_of}
use Rattle.calls.specs.Packets.{handed, placed, key_of, encoded_call, encode_typed, encode_call, guard_of, window_left, decode_call, answer_open_call, field_call}
use Rattle.calls.specs.Tokens.{token_call, challenge_call, answer_challenge_call}

-- ---- the bytes for the cipher

pub told_laid : (ask : Ask) (t₁ t₂ t₃ : List ℕ) → length ask.key ≡ 32 → length ask.nonce ≡ 12 → length ask.additional ≡ 22
    → t₁ ≡ splice (zeros 66) 0 (part ask.key 0 32) → t₂ ≡ splice t₁ 32 (part ask.nonce 0 12) → t₃ ≡ splice t₂ 44 (part ask.additional 0 22)
    → t₃ ≡ told_of ask
told_laid ask t₁ t₂ t₃ k n a p q r =
    r
    ∙ ap (splice t₂ 44) (part_whole ask.additional 22 a)
    ∙ ap (λ (t : List ℕ). splice t 44 ask.additional) (q
    ∙ ap (splice t₁ 32) (part_whole ask.nonce 12 n)
    ∙ ap (λ (t : List ℕ). splice t 32 ask.nonce) (p ∙ ap (splice (zeros 66) 0) (part_whole ask.key 32 k)))

-- ---- a buffer written: desk, bytes for the cipher, buffer

pub encoded_laid : (e : Encoded) (out desk told : List ℕ) (d : Done) → done e out ≡ d → desk ≡ encoded_desk e → told ≡ told_of e.ask
    → handed desk told out ≡ encoded_call d
encoded_laid e out desk told d p q r =
    ap (λ (x : List ℕ). handed x told out) q
    ∙ ap (λ (x : List ℕ). handed (encoded_desk e) x out) r
    ∙ ap encoded_call p

pub encode_laid : (kind : PacketType) (packet : Packet) (key : Option (List ℕ)) (e : Encoded) (out' desk told : List ℕ)
    (out : List ℕ) (number a b : ℕ) (bytes : List ℕ) (protocol : ℕ) (keyed : Bool) (private : List ℕ) (sequence : ℕ)
    → type_of number ≡ Ok kind → packet ≡ packet_of kind a b → key ≡ key_of keyed private
    → done e out' ≡ encode out packet bytes protocol key sequence → desk ≡ encoded_desk e → told ≡ told_of e.ask
    → handed desk told out' ≡ encode_call out number a b bytes protocol keyed private sequence
encode_laid kind packet key e out' desk told out number a b bytes protocol keyed private sequence t p k d q r =
    encoded_laid e out' desk told _ d q r
    ∙ ap (λ (x : Packet). encoded_call (encode out x bytes protocol key sequence)) p
    ∙ ap (λ (x : Option (List ℕ)). encoded_call (encode out (packet_of kind a b) bytes protocol x sequence)) k
    ∙ sym (ap (λ (x : Result PacketType ℕ). encode_typed x out a b bytes protocol (key_of keyed private) sequence) t)

pub untyped_laid : (desk out : List ℕ) {n : ℕ} (number a b : ℕ) (bytes : List ℕ) (protocol : ℕ) (keyed : Bool) (private : List ℕ) (sequence : ℕ)
    → type_of number ≡ Err n → desk ≡ refused_desk n
    → handed desk (zeros 66) out ≡ encode_call out number a b bytes protocol keyed private sequence
untyped_laid desk out number a b bytes protocol keyed private sequence t q =
    ap (λ (x : List ℕ). handed x (zeros 66) out) q
    ∙ sym (ap (λ (x : Result PacketType ℕ). encode_typed x out a b bytes protocol (key_of keyed private) sequence) t)

-- ---- a datagram read: desk, bytes for the cipher, window

pub decode_laid : (key : Option (List ℕ)) (guard : Option ReplayProtection) (r : Decoded) (desk told left : List ℕ)
    (d : List ℕ) (protocol : ℕ) (keyed : Bool) (private : List ℕ) (guarded : Bool) (words : List ℕ)
    → key ≡ key_of keyed private → guard ≡ guard_of guarded words → r ≡ decode d protocol key guard
    → desk ≡ decoded_desk r → told ≡ told_of r.ask → left ≡ window_left words r.guard
    → handed desk told left ≡ decode_call d protocol keyed private guarded words
decode_laid key guard r desk told left d protocol keyed private guarded words k g p q t l =
    ap (λ (x : List ℕ). handed x told left) q
    ∙ ap (λ (x : List ℕ). handed (decoded_desk r) x left) t
    ∙ ap (λ (x : List ℕ). handed (decoded_desk r) (told_of r.ask) x) l
    ∙ ap (λ (x : Decoded). handed (decoded_desk x) (told_of x.ask) (window_left words x.guard)) (p
    ∙ ap (λ (x : Option (List ℕ)). decode d protocol x guard) k
    ∙ ap (λ (x : Option ReplayProtection). decode d protocol (key_of keyed private) x) g)

pub answer_open_laid : (opening : Option Opening) (guard : Option ReplayProtection) (r : Decoded) (desk' left : List ℕ)
    (desk d : List ℕ) (guarded : Bool) (words : List ℕ) (granted : Bool)
    → opening ≡ opening_of (kept_on desk) → guard ≡ guard_of guarded words → r ≡ answer_open opening d guard granted
    → desk' ≡ decoded_desk r → left ≡ window_left words r.guard
    → placed desk' left ≡ answer_open_call desk d guarded words granted
answer_open_laid opening guard r desk' left desk d guarded words granted o g p q l =
    ap (λ (x : List ℕ). placed x left) q
    ∙ ap (placed (decoded_desk r)) l
    ∙ ap (λ (x : Decoded). placed (decoded_desk x) (window_left words x.guard)) (p
    ∙ ap (λ (x : Option Opening). answer_open x d guard granted) o
    ∙ ap (λ (x : Option ReplayProtection). answer_open (opening_of (kept_on desk)) d x granted) g)

-- ---- challenge tokens

pub challenge_laid : (c e : Challenged) (desk told : List ℕ) → c ≡ e → desk ≡ challenged_desk c → told ≡ told_of c.ask
    → placed desk told ≡ challenge_call e
challenge_laid c e desk told p q r = ap (λ (x : List ℕ). placed x told) q ∙ ap (placed (challenged_desk c)) r ∙ ap challenge_call p

pub answer_challenge_laid : (opening : Option ProofOpening) (c : Challenged) (desk' : List ℕ) (desk src : List ℕ) (granted : Bool)
    → opening ≡ proof_opening_of (kept_on desk)
    → c ≡ answer_challenge opening src granted → desk' ≡ challenged_desk c
    → placed desk' c.token.user_data ≡ answer_challenge_call desk src granted
answer_challenge_laid opening c desk' desk src granted o p q =
    ap (λ (x : List ℕ). placed x c.token.user_data) q
    ∙ ap token_call (p ∙ ap (λ (x : Option ProofOpening). answer_challenge x src granted) o)

-- ---- a part of a body, copied where it fits

pub field_kept : (f g out : List ℕ) → f ≡ g → length out < length f → written (length f) out ≡ field_call g out
unfolding field_call pick
field_kept f g out p s = simp (lt-ltb (length out) (length f) s) refl ∙ ap (λ (x : List ℕ). field_call x out) p

pub field_copied : (f g out out' : List ℕ) → f ≡ g → length f ≤ length out → out' ≡ splice out 0 (part f 0 (length f))
    → written (length f) out' ≡ field_call g out
unfolding field_call pick
field_copied f g out out' p s q =
    ap (written (length f)) (q ∙ ap (splice out 0) (part_whole f (length f) refl))
    ∙ simp (le-ltb (length out) (length f) s) refl
    ∙ ap (λ (x : List ℕ). field_call x out) p
