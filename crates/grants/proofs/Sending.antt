-- Four writes right after each other are one run, `generate_challenge` refuses nothing that it is asked here to write, and each way out is
-- a case of its definition.
use mathlib.Core.Path.{◌≡◌, ap, ap₂, ◌∙◌}
use Prim.Native.Nat.{ℕ, ◌+◌, ◌-◌, ◌^◌, ◌≤◌, ◌<◌}
use native.Mathlib.Omega.{arith}
use mathlib.Core.List.{List, ◌++◌}
use lib.ListN.{length, set, length-append}
use borrow.Author.Tests.{eq-eqb, ne_eqb, le-ltb}
use Rattle.serialize.specs.Choice.{pick}
use Rattle.serialize.specs.Runs.{splice}
use Rattle.serialize.specs.Le.{to_le}
use Rattle.serialize.proofs.Lists.{splice_then, splice_cons, length_splice}
use Rattle.serialize.proofs.Le.{length_to_le}
use Rattle.prefix.specs.Head.{fewest, prefix_byte, head_bytes}
use Rattle.prefix.proofs.Fewest.{fewest_le}
use Rattle.bodies.specs.Tokens.{token, token_clear}
use Rattle.bodies.proofs.Back.{length_clear}
use Rattle.addresses.specs.declared.Address.{Address}
use Rattle.asks.specs.declared.Work.TheVariants as work
use Rattle.asks.specs.Asks.{token_ask}
use Rattle.encode.specs.declared.Encoding.TheVariants.{Asked}
use Rattle.encode.specs.declared.Encoded.{Encoded}
use Rattle.encode.specs.Encodes.{Done, done, encoded_as, open_at}
use Rattle.encode.specs.Generates.{generate_challenge}
use Rattle.server.specs.declared.NetcodeServer.{NetcodeServer}
use Rattle.server.specs.declared.Ask.{Ask}
use Rattle.server.specs.declared.Goal.TheVariants.{ChallengeToken}
use Rattle.server.specs.declared.Stage.TheVariants.{Seal}
use Rattle.server.specs.declared.Answer.TheVariants.{Refused}
use Rattle.server.specs.Asking.{asked}
use Rattle.turns.specs.declared.Turn.{Turn}
use Rattle.turns.specs.Outcomes.{closed, asking}
use Rattle.turns.specs.Packets.{Sealing, sealing, prepared}
use Rattle.grants.specs.declared.PrivateConnectToken.{PrivateConnectToken}
use Rattle.grants.specs.Tokens.{token_start, challenge_out, challenge_ask, held_of, challenge_sent, raised, challenged}

-- ---- writing: t, u and v are the output after the head, the token sequence and the token

module _ (out : List ℕ) (global sequence : ℕ) (key : List ℕ) (id : ℕ) (user : List ℕ) (room : 1400 ≤ length out) (small : global < 256 ^ 8)
    (whole : length user ≡ 256) where
  abbrev head : List ℕ
  head = head_bytes 2 global

  head_long : length head ≡ 1 + fewest global
  head_long = omega (arith, length_to_le (fewest global) global)

  start_early : token_start global ≤ 17
  start_early = let k = fewest_le global small in omega arith

  module _ (p n : ℕ) (prefixed : p ≡ prefix_byte 2 (fewest global)) (counted : n ≡ fewest global) (t u : List ℕ)
      (first : t ≡ splice (set out 0 p) 1 (to_le (fewest global) global)) (second : u ≡ splice t (1 + n) (to_le 8 sequence)) where
    headed : t ≡ splice out 0 head
    headed =
        let k = start_early in
        first
        ∙ ap (λ (q : ℕ). splice (set out 0 q) 1 (to_le (fewest global) global)) prefixed
        ∙ splice_cons out 0 (prefix_byte 2 (fewest global)) (to_le (fewest global) global) (omega (arith, length_to_le (fewest global) global))

    sequenced : u ≡ splice out 0 (head ++ to_le 8 sequence)
    sequenced =
        let k = start_early in
        let l = length_to_le 8 sequence in
        let h = head_long in
        splice_then out t u 0 head (1 + n) (to_le 8 sequence) headed second (omega arith) (omega arith)

    both_long : length (head ++ to_le 8 sequence) ≡ token_start global
    both_long = simp length-append (omega (arith, length_to_le 8 sequence, head_long))

    as_long : length u ≡ length out
    as_long =
        let k = start_early in
        let b = both_long in
        ap length sequenced ∙ length_splice out 0 (head ++ to_le 8 sequence) (omega arith)

    clear_written : (v : List ℕ) → v ≡ splice u (token_start global) (token_clear (token id user)) → v ≡ challenge_out out global sequence id user
    unfolding challenge_out
    clear_written v e =
        let k = start_early in
        let b = both_long in
        let c = length_clear (token id user) whole in
        splice_then out u v 0 (head ++ to_le 8 sequence) (token_start global) (token_clear (token id user)) sequenced e (omega arith) (omega arith)

    abbrev written : Done
    written =
        done
        (encoded_as Asked (token_ask work.Seal key sequence (token_start global) (token_start global + 300)) (open_at (token_start global + 300) (length u)))
        (splice u (token_start global) (token_clear (token id user)))

    pub challenge_written : (r : Encoded) (v : List ℕ) → done r v ≡ generate_challenge u (1 + n + 8) (token id user) sequence key
        → (a : Ask) → a ≡ asked r.ask
        → sealing a v ≡ sealing (challenge_ask global sequence key) (challenge_out out global sequence id user)
    unfolding generate_challenge pick challenge_ask
    challenge_written r v e a f =
        let k = start_early in
        let l = as_long in
        let at : 1 + n + 8 ≡ token_start global = omega arith in
        let fits : token_start global + 300 ≤ length u = omega arith in
        let w : done r v ≡ written = e ∙ ap (λ (i : ℕ). generate_challenge u i (token id user) sequence key) at ∙ simp (le-ltb (length u) (token_start global + 300) fits) in
        ap₂ sealing (f ∙ ap (λ (d : Done). asked d.encoded.ask) w) (clear_written v (ap (λ (d : Done). d.out) w))

-- the token ends early in the output
pub token_ends : (global sequence : ℕ) (key out : List ℕ) (id : ℕ) (user : List ℕ) → global < 256 ^ 8
    → (a : Ask) (out' : List ℕ) → sealing a out' ≡ sealing (challenge_ask global sequence key) (challenge_out out global sequence id user) → a.end ≤ 317
unfolding challenge_ask asked
token_ends global sequence key out id user h a out' e =
    let k = fewest_le global h in
    let f : a.end ≡ token_start global + 300 = ap (λ (w : Sealing). w.ask.end) e in
    omega arith

-- ---- sending: the global counter

module _ (s : NetcodeServer) (datagram : ℕ) (addr : Address) (expiry : ℕ) (p : PrivateConnectToken) (held out : List ℕ) where
  abbrev g : ℕ
  g = s.counters.global_sequence

  abbrev c : ℕ
  c = s.counters.challenge_sequence

  pub send_late : g ≡ 2 ^ 64 - 1 → (r : Turn) → r ≡ closed s (Refused 15) → prepared r held out ≡ challenge_sent s datagram addr expiry p held out
  unfolding challenge_sent pick
  send_late e r f = ap (λ (x : Turn). prepared x held out) f ∙ simp (eq-eqb g (2 ^ 64 - 1) e)

  pub send_asks : (g ≡ 2 ^ 64 - 1 → ⊥) → (a : Ask) (out' : List ℕ)
      → sealing a out' ≡ sealing (challenge_ask g c s.set.challenge_key) (challenge_out out g c p.client_id p.user_data)
      → (held' : List ℕ) → held' ≡ held_of expiry p
      → (r : Turn) → r ≡ asking s (Seal (ChallengeToken addr) g (a.end + 16)) datagram (length out) a
      → prepared r held' out' ≡ challenge_sent s datagram addr expiry p held out
  unfolding challenge_sent pick challenge_ask asked
  send_asks n a out' e held' h r f =
      ap₂ (λ (x : Turn) (y : List ℕ). prepared x y out') f h
      ∙ ap (λ (w : Sealing). prepared (asking s (Seal (ChallengeToken addr) g (w.ask.end + 16)) datagram (length out) w.ask) (held_of expiry p) w.out) e
      ∙ simp (ne_eqb g (2 ^ 64 - 1) n)

  -- ---- and before it the challenge counter

  pub challenge_late : c ≡ 2 ^ 64 - 1 → (r : Turn) → r ≡ closed s (Refused 15) → prepared r held out ≡ challenged s datagram addr expiry p held out
  unfolding challenged pick
  challenge_late e r f = ap (λ (x : Turn). prepared x held out) f ∙ simp (eq-eqb c (2 ^ 64 - 1) e)

  pub challenge_sent_lem : (c ≡ 2 ^ 64 - 1 → ⊥) → (s' : NetcodeServer) → s' ≡ raised s
      → (r : Turn) (held' out' : List ℕ) → prepared r held' out' ≡ challenge_sent s' datagram addr expiry p held out
      → prepared r held' out' ≡ challenged s datagram addr expiry p held out
  unfolding challenged pick
  challenge_sent_lem n s' f r held' out' e =
      e ∙ ap (λ (x : NetcodeServer). challenge_sent x datagram addr expiry p held out) f ∙ simp (ne_eqb c (2 ^ 64 - 1) n)
