-- What a test comes to is told by its number, and so is what comes of tests in turn: the number of the first that refuses.
use Rattle.std.specs.Prelude.{ℕ, zero, suc, ◌≡◌, Bool, true, false, not, eqb, is_some, Some, Result, Ok, Err}
use Rattle.std.specs.Option.{option_eq}
use Rattle.std.proofs.Common.{refl, sym, ap, ◌∙◌, arith}
use borrow.Author.Tests.{ne_eqb}
use Rattle.serialize.specs.Choice.{pick}
use Rattle.refusal.specs.Verdicts.{verdict}
use Rattle.server.specs.declared.OpenAsk.{OpenAsk}
use Rattle.server.specs.declared.SetUp.{SetUp}
use Rattle.server.specs.declared.Stage.{Stage}
use Rattle.server.specs.declared.Stage.TheVariants.{Idle, Packet, Token, Challenge, Seal}
use Rattle.server.specs.declared.Wanted.{Wanted}
use Rattle.server.specs.declared.Wanted.TheVariants as want
use Rattle.server.specs.contracts.WantedPartialEq.TheImpl as equality
use Rattle.server.specs.Ready.{before, next_to, kind_of, wanted, code_of, call_refusal, call_verdict, unfit, answer_refusal, answer_verdict}

-- two tests in turn
pub next_verdict : (a b : ℕ) → next_to (verdict a) (verdict b) ≡ verdict (before a b)
unfolding verdict before pick
next_verdict zero b = refl
next_verdict (suc a) b = simp (ne_eqb (suc a) 0 (λ e. omega (arith, e)))

-- x is what a test of the number a came to, and a test of the number b follows
module _ (a b : ℕ) (x : Result (Unit {0}) ℕ) (tested : x ≡ verdict a) where
  pub stops : (r : ℕ) → x ≡ Err r → (y : Result (Unit {0}) ℕ) → y ≡ Err r → y ≡ verdict (before a b)
  stops r h y g = g ∙ ap (λ (z : Result (Unit {0}) ℕ). next_to z (verdict b)) (sym h ∙ tested) ∙ next_verdict a b

  pub goes_on : (u : Unit {0}) → x ≡ Ok u → (y : Result (Unit {0}) ℕ) → y ≡ verdict b → y ≡ verdict (before a b)
  goes_on u h y g = g ∙ ap (λ (z : Result (Unit {0}) ℕ). next_to z (verdict b)) (sym h ∙ tested) ∙ next_verdict a b

-- one of two tests, by a third
pub pick_verdict : (c : Bool) (a b : ℕ) → pick c (verdict a) (verdict b) ≡ verdict (pick c a b)
unfolding pick
pick_verdict true a b = refl
pick_verdict false a b = refl

-- For the crates above: a call tests its tables, whose number is t, and then whether it may go on. Both together are a test of the
-- number that the call's own definition speaks of.

module _ (ask : OpenAsk) (t : ℕ) where
  pub call_verdict_of : call_verdict ask (verdict t) ≡ verdict (call_refusal ask t)
  unfolding call_verdict call_refusal verdict
  call_verdict_of = pick_verdict (eqb (kind_of ask.stage) 0) t 16

  pub call_tested : (tables r : Result (Unit {0}) ℕ) → tables ≡ verdict t → r ≡ call_verdict ask tables → r ≡ verdict (call_refusal ask t)
  call_tested tables r e f = f ∙ ap (λ (x : Result (Unit {0}) ℕ). call_verdict ask x) e ∙ call_verdict_of

module _ (ask : OpenAsk) (t kind : ℕ) (set : SetUp) (datagram out : ℕ) where
  pub answer_verdict_of : answer_verdict ask (verdict t) kind set datagram out ≡ verdict (answer_refusal ask t kind set datagram out)
  unfolding answer_verdict answer_refusal verdict pick
  answer_verdict_of = by (eqb (kind_of ask.stage) 0) (unfit ask kind set datagram out) t
    where
      by : (a b : Bool) (n : ℕ) → pick a (Err 17) (next_to (verdict n) (pick b (Err 18) (Ok tt))) ≡ verdict (pick a 17 (pick (eqb n 0) (pick b 18 0) n))
      by true b n = refl
      by false true zero = refl
      by false false zero = refl
      by false b (suc n) = simp (ne_eqb (suc n) 0 (λ e. omega (arith, e)))

  pub answer_tested : (tables r : Result (Unit {0}) ℕ) → tables ≡ verdict t → r ≡ answer_verdict ask tables kind set datagram out
      → r ≡ verdict (answer_refusal ask t kind set datagram out)
  answer_tested tables r e f = f ∙ ap (λ (x : Result (Unit {0}) ℕ). answer_verdict ask x kind set datagram out) e ∙ answer_verdict_of

-- no ask is open where none is wanted
pub idle_wants : (stage : Stage) → eqb (kind_of stage) 0 ≡ not (is_some (wanted stage))
unfolding wanted kind_of
idle_wants Idle = refl
idle_wants (Packet a b c d e) = refl
idle_wants (Token a b c d) = refl
idle_wants (Challenge a b) = refl
idle_wants (Seal a b c) = refl

-- an answer is of the kind that is wanted where its number is the stage's
pub kind_compared : (stage : Stage) (k : Wanted) → option_eq equality.eq-value.it (wanted stage) (Some k) ≡ eqb (kind_of stage) (code_of k)
unfolding wanted kind_of
kind_compared Idle want.Open = refl
kind_compared Idle want.Token = refl
kind_compared Idle want.Seal = refl
kind_compared (Packet a b c d e) want.Open = refl
kind_compared (Packet a b c d e) want.Token = refl
kind_compared (Packet a b c d e) want.Seal = refl
kind_compared (Token a b c d) want.Open = refl
kind_compared (Token a b c d) want.Token = refl
kind_compared (Token a b c d) want.Seal = refl
kind_compared (Challenge a b) want.Open = refl
kind_compared (Challenge a b) want.Token = refl
kind_compared (Challenge a b) want.Seal = refl
kind_compared (Seal a b c) want.Open = refl
kind_compared (Seal a b c) want.Token = refl
kind_compared (Seal a b c) want.Seal = refl
