-- An answer to an ask to seal is refused exactly where document 01's table says: the shared tests decide the first numbers, and after them
-- only a no is refused, by 24, unless a slot was being ended.
use mathlib.Core.Path.{◌≡◌, refl, sym, ap, subst, ◌∙◌}
use mathlib.Core.Logic.{◌↔◌}
use mathlib.Core.Bool.{Bool, true, false}
use Prim.Native.Nat.{ℕ, ◌≤◌}
use native.Mathlib.Omega.{arith}
use mathlib.Core.List.{List}
use lib.ListN.{length}
use borrow.Author.Tests.{eq-eqb, ne_eqb}
use Rattle.serialize.specs.Choice.{pick}
use Rattle.serialize.proofs.Choice.{by_test}
use Rattle.addresses.specs.declared.Address.{Address}
use Rattle.server.specs.declared.Answer.TheVariants.{Refused}
use Rattle.server.specs.declared.Stage.{Stage}
use Rattle.server.specs.declared.Stage.TheVariants as stage
use Rattle.server.specs.declared.Goal.{Goal}
use Rattle.server.specs.declared.Goal.TheVariants as goal
use Rattle.server.specs.Ready.{kind_of}
use Rattle.turns.specs.Outcomes.{State, Outcome, leaves, refuses, closed}
use Rattle.seals.specs.Seals.{unsealed, packet_asked, connects, sends, sealed, by_stage, seal_refusal, seals}
use Rattle.refusals.specs.Answering.{Open, Fit, both_of, SealSays, seals_17, seals_23, seals_18, seals_24, SealLeaves, nothing, closed_24}
use Rattle.refusals.proofs.Answers.{same_refusal, both_23, idle_17, tables_said, fit_0, no_fit_18, by_answer}

module _ (t : State) (granted : Bool) (held : List ℕ) (out : ℕ) where
  -- refused by a number, which leaves what its line says
  record Told (n : ℕ) (o : Outcome) : Type 0 where
    answer : o.answer ≡ Refused n
    left : SealLeaves t n o.state

  stopped : (n : ℕ) → (n ≡ 0 → ⊥) → seal_refusal t out ≡ n → seals t granted held out ≡ refuses t n
  unfolding seals pick
  stopped n z e = simp (e, ne_eqb n 0 z)

  stops : (n : ℕ) → 17 ≤ n → n ≤ 23 → seal_refusal t out ≡ n → Told n (seals t granted held out)
  stops n a b e = subst (Told n) (sym (stopped n (λ z. omega arith) e)) (record { answer = refl; left = nothing n a b })

  passes : seal_refusal t out ≡ 0 → seals t granted held out ≡ by_stage t granted held out t.server.ask.stage
  unfolding seals pick
  passes e = simp (eq-eqb (seal_refusal t out) 0 e)

  -- a no, for a goal
  no : (x : Goal) → ((id : ℕ) (addr : Address) → x ≡ goal.Ending id addr → ⊥) → unsealed t.server x ≡ closed t.server (Refused 24)
  unfolding unsealed
  no (goal.Denied addr) n = refl
  no (goal.ChallengeToken addr) n = refl
  no (goal.ChallengePacket addr) n = refl
  no (goal.Connecting j i) n = refl
  no (goal.Sending i) n = refl
  no (goal.Ending id addr) n = absurd (n id addr refl)

  at_seal : (x : Goal) (sequence end : ℕ) → seal_refusal t out ≡ 0 → t.server.ask.stage ≡ stage.Seal x sequence end
      → seals t granted held out ≡ pick granted (sealed t held out sequence end x) (leaves t (unsealed t.server x))
  unfolding by_stage
  at_seal x sequence end e s = passes e ∙ ap (by_stage t granted held out) s

  at_yes : granted ≡ true → (x : Goal) (sequence end : ℕ) → seal_refusal t out ≡ 0 → t.server.ask.stage ≡ stage.Seal x sequence end
      → seals t granted held out ≡ sealed t held out sequence end x
  unfolding pick
  at_yes g x sequence end e s = at_seal x sequence end e s ∙ simp g

  at_no : granted ≡ false → (x : Goal) (sequence end : ℕ) → seal_refusal t out ≡ 0 → t.server.ask.stage ≡ stage.Seal x sequence end
      → seals t granted held out ≡ leaves t (unsealed t.server x)
  unfolding pick
  at_no g x sequence end e s = at_seal x sequence end e s ∙ simp g

  -- a line of the table gives its number
  given : (n : ℕ) → SealSays t granted out n → Told n (seals t granted held out)
  given n (seals_17 e) = stops 17 (omega arith) (omega arith) (idle_17 t (both_of t) 3 t.server.ask.datagram out e)
  given n (seals_23 o z) =
      stops 23 (omega arith) (omega arith)
      (tables_said t (both_of t) 3 t.server.ask.datagram out o z ∙ both_23 t.server.set (length t.slots) (length t.pending) z)
  given n (seals_18 o e f) = stops 18 (omega arith) (omega arith) (no_fit_18 t (both_of t) 3 t.server.ask.datagram out o e f)
  given n (seals_24 o e f g x sequence end s d) =
      subst (Told 24) (sym (at_no g x sequence end (fit_0 t (both_of t) 3 t.server.ask.datagram out o e f) s ∙ ap (leaves t) (no x d)))
      (record { answer = refl; left = closed_24 })

  -- every answer meets a line, or is not refused
  data Verdict : Type 0 where
    line : (n : ℕ) → SealSays t granted out n → Verdict
    none : ((n : ℕ) → (seals t granted held out).answer ≡ Refused n → ⊥) → Verdict

  -- a yes is never refused
  yes_taken : (x : Goal) (sequence end n : ℕ) → (sealed t held out sequence end x).answer ≡ Refused n → ⊥
  unfolding sealed packet_asked connects sends
  yes_taken (goal.Denied addr) sequence end n e = let z : ◌≡◌ {A = ℕ} 0 1 = cc in omega arith
  yes_taken (goal.ChallengeToken addr) sequence end n e = let z : ◌≡◌ {A = ℕ} 0 1 = cc in omega arith
  yes_taken (goal.ChallengePacket addr) sequence end n e = let z : ◌≡◌ {A = ℕ} 0 1 = cc in omega arith
  yes_taken (goal.Connecting j i) sequence end n e = let z : ◌≡◌ {A = ℕ} 0 1 = cc in omega arith
  yes_taken (goal.Sending i) sequence end n e = let z : ◌≡◌ {A = ℕ} 0 1 = cc in omega arith
  yes_taken (goal.Ending id addr) sequence end n e = let z : ◌≡◌ {A = ℕ} 0 1 = cc in omega arith

  module _ (o : Open t) (tabled : both_of t ≡ 0) (fit : Fit t 3 t.server.ask.datagram out) where
    pass : seal_refusal t out ≡ 0
    pass = fit_0 t (both_of t) 3 t.server.ask.datagram out o tabled fit

    said : granted ≡ false → (x : Goal) (sequence end : ℕ) → t.server.ask.stage ≡ stage.Seal x sequence end
        → ((id : ℕ) (addr : Address) → x ≡ goal.Ending id addr → ⊥) → Verdict
    said g x sequence end s d = line 24 (seals_24 o tabled fit g x sequence end s d)

    denied : granted ≡ false → (x : Goal) (sequence end : ℕ) → t.server.ask.stage ≡ stage.Seal x sequence end → Verdict
    unfolding unsealed
    denied g (goal.Denied addr) sequence end s = said g (goal.Denied addr) sequence end s (λ i a e. let z : ◌≡◌ {A = ℕ} 0 1 = cc in omega arith)
    denied g (goal.ChallengeToken addr) sequence end s = said g (goal.ChallengeToken addr) sequence end s (λ i a e. let z : ◌≡◌ {A = ℕ} 0 1 = cc in omega arith)
    denied g (goal.ChallengePacket addr) sequence end s = said g (goal.ChallengePacket addr) sequence end s (λ i a e. let z : ◌≡◌ {A = ℕ} 0 1 = cc in omega arith)
    denied g (goal.Connecting j i) sequence end s = said g (goal.Connecting j i) sequence end s (λ k a e. let z : ◌≡◌ {A = ℕ} 0 1 = cc in omega arith)
    denied g (goal.Sending i) sequence end s = said g (goal.Sending i) sequence end s (λ k a e. let z : ◌≡◌ {A = ℕ} 0 1 = cc in omega arith)
    denied g (goal.Ending id addr) sequence end s =
        none (λ n e.
        let x = at_no g (goal.Ending id addr) sequence end pass s in
        let y = sym (ap (λ (u : Outcome). u.answer) x) ∙ e in
        let z : ◌≡◌ {A = ℕ} 0 1 = cc in omega arith)

    by_stage_lem : (x : Stage) → t.server.ask.stage ≡ x → kind_of x ≡ 3 → Verdict
    unfolding kind_of
    by_stage_lem stage.Idle s k = absurd (omega arith)
    by_stage_lem (stage.Packet a b c d e) s k = absurd (omega arith)
    by_stage_lem (stage.Token a b c d) s k = absurd (omega arith)
    by_stage_lem (stage.Challenge a b) s k = absurd (omega arith)
    by_stage_lem (stage.Seal x sequence end) s k =
        by_test granted
        (λ g. none (λ n e. yes_taken x sequence end n (sym (ap (λ (u : Outcome). u.answer) (at_yes g x sequence end pass s)) ∙ e)))
        (λ g. denied g x sequence end s)

  verdict : Verdict
  verdict =
      by_answer t (both_of t) 3 t.server.ask.datagram out
      (λ e. line 17 (seals_17 e))
      (λ o z. line 23 (seals_23 o z))
      (λ o e f. line 18 (seals_18 o e f))
      (λ o e f. by_stage_lem o e f t.server.ask.stage refl f.wanted)

  settle : (n : ℕ) → Verdict → (seals t granted held out).answer ≡ Refused n → SealSays t granted out n
  settle n (line m s) e = subst (SealSays t granted out) (same_refusal (sym (given m s).answer ∙ e)) s
  settle n (none f) e = absurd (f n e)

-- the answer refuses by n exactly when the table says n
pub seals_exactly : (t : State) (granted : Bool) (held : List ℕ) (out n : ℕ) → ((seals t granted held out).answer ≡ Refused n) ↔ SealSays t granted out n
seals_exactly t granted held out n = (settle t granted held out n (verdict t granted held out), λ s. (given t granted held out n s).answer)

-- and it then leaves what the number's line says
pub seals_leave : (t : State) (granted : Bool) (held : List ℕ) (out n : ℕ) → (seals t granted held out).answer ≡ Refused n
    → SealLeaves t n (seals t granted held out).state
seals_leave t granted held out n e = (given t granted held out n (settle t granted held out n (verdict t granted held out) e)).left
