-- What generate_challenge writes and an honest host seals is opened and read back as the same token, where it stands.
use mathlib.Core.Path.{◌≡◌, ap, ap₂, ◌∙◌}
use mathlib.Core.Bool.{true}
use Prim.Native.Nat.{ℕ, ◌+◌, ◌-◌, ◌^◌, ◌≤◌, ◌<◌}
use native.Mathlib.Omega.{arith}
use mathlib.Core.List.{List}
use Rattle.std.specs.Prelude.{Some, None}
use lib.ListN.{length, take}
use borrow.Author.Tests.{le-ltb, eq-eqb}
use Rattle.serialize.specs.Choice.{pick}
use Rattle.serialize.specs.Runs.{part, splice, zeros}
use Rattle.serialize.proofs.Lists.{length_splice, part_splice_same, splice_over}
use Rattle.prefix.specs.Sealed.{packet_nonce}
use Rattle.bodies.specs.declared.challenge.ChallengeToken.{ChallengeToken}
use Rattle.bodies.specs.Tokens.{token_clear}
use Rattle.bodies.proofs.Back.{length_clear, token_reads_back}
use Rattle.asks.specs.declared.Work.TheVariants as work
use Rattle.asks.specs.Asks.{no_ask, token_ask}
use Rattle.encode.specs.declared.Encoding.TheVariants as encoding
use Rattle.encode.specs.Encodes.{Done, done, encoded_as, open_at}
use Rattle.encode.specs.Generates.{generate_challenge}
use Rattle.decode.specs.declared.Proving.TheVariants.{Asked, Proved}
use Rattle.decode.specs.Challenges.{challenged_as, proof_as, no_token, decode_challenge, answer_proof, answer_challenge}
use Rattle.packet.specs.Hosts.{Host, Yes, sealed_in, said_of, opened_in}

module _ (h : Host) (out : List ℕ) (at : ℕ) (t : ChallengeToken) (sequence : ℕ) (key : List ℕ)
    (fits : at + 300 ≤ length out) (id : t.client_id < 256 ^ 8) (user : length t.user_data ≡ 256) where
  generates : generate_challenge out at t sequence key
      ≡ done (encoded_as encoding.Asked (token_ask work.Seal key sequence at (at + 300)) (open_at (at + 300) (length out))) (splice out at (token_clear t))
  unfolding generate_challenge pick
  generates = simp (le-ltb (length out) (at + 300) fits)

  -- the seal of the token
  sealed : List ℕ
  sealed = h.seal key (packet_nonce sequence) (take 0 (zeros 22)) (token_clear t)

  -- the buffer once the host has sealed it
  pub buffer : List ℕ
  buffer = sealed_in h (generate_challenge out at t sequence key).encoded.ask (generate_challenge out at t sequence key).out

  buffer_is : buffer ≡ splice out at sealed
  unfolding buffer sealed
  buffer_is =
      let clear : List ℕ = token_clear t in
      let f : List ℕ → List ℕ = h.seal key (packet_nonce sequence) (take 0 (zeros 22)) in
      let n : length clear ≡ 284 = length_clear t user in
      let m : length (f clear) ≡ length clear + 16 = h.tagged _ _ _ clear in
      let k : at + 300 - 16 - at ≡ length clear = omega arith in
      ap (λ (e : Done). sealed_in h e.encoded.ask e.out) generates
      ∙ ap (λ (x : List ℕ). splice (splice out at clear) at (f x)) (ap (part (splice out at clear) at) k ∙ part_splice_same out at clear (omega arith))
      ∙ splice_over out at clear (f clear) (omega arith) (omega arith)

  length_sealed : length sealed ≡ 300
  unfolding sealed
  length_sealed = omega (arith, length_clear t user, h.tagged key (packet_nonce sequence) (take 0 (zeros 22)) (token_clear t))

  length_buffer : length buffer ≡ length out
  length_buffer = ap length buffer_is ∙ length_splice out at sealed (omega (arith, length_sealed))

  -- decode asks to open it, and keeps nothing else
  pub token_asks : decode_challenge (length buffer) at sequence key ≡ challenged_as Asked (token_ask work.Open key sequence at (at + 300)) (Some (proof_as at (length buffer))) no_token
  unfolding decode_challenge pick
  token_asks = simp (le-ltb (length buffer) (at + 300) (omega (arith, length_buffer)))

  -- the host says yes
  pub token_agrees : said_of h (token_ask work.Open key sequence at (at + 300)) buffer ≡ Yes (token_clear t)
  unfolding sealed
  token_agrees =
      let n : length sealed ≡ 300 = length_sealed in
      let k : at + 300 - at ≡ length sealed = omega arith in
      ap (h.opens key (packet_nonce sequence) (take 0 (zeros 22)))
      (ap₂ (λ (l : List ℕ) (i : ℕ). part l at i) buffer_is k ∙ part_splice_same out at sealed (omega arith))
      ∙ h.honest _ _ _ (token_clear t)

  -- and its answer gives the token
  pub token_trip : answer_challenge (Some (proof_as at (length buffer))) (opened_in (token_ask work.Open key sequence at (at + 300)) buffer (token_clear t)) true ≡ challenged_as Proved no_ask None t
  unfolding answer_proof pick
  token_trip =
      let n : length buffer ≡ length out = length_buffer in
      let m : length (token_clear t) ≡ 284 = length_clear t user in
      let l : length (splice buffer at (token_clear t)) ≡ length buffer = length_splice buffer at (token_clear t) (omega arith) in
      simp (eq-eqb (length (splice buffer at (token_clear t))) (length buffer) l, le-ltb (length buffer) (at + 300) (omega arith))
      (ap (challenged_as Proved no_ask None) (token_reads_back buffer at t (omega arith) id user))
