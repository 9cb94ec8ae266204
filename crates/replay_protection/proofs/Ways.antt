-- What each way out of the code gives, over any width: a test turned into a Bool decides one step of the definition.
use mathlib.Core.Path.{◌≡◌, sym, ap, ap₂, ◌∙◌}
use mathlib.Core.Logic.{◌≢◌}
use mathlib.Core.Bool.{true, false}
use Prim.Native.Nat.{ℕ, ◌+◌, ◌-◌, ◌%◌, ◌^◌, ◌≤◌, ◌<◌, max}
use native.Mathlib.Omega.{arith}
use lib.ListN.{get_or, set}
use lib.Dec.{leb}
use borrow.Author.Tests.{le-leb, lt-leb, leb-true, leb-false, eq-eqb, ne_eqb}
use Rattle.serialize.specs.Choice.{pick}
use Rattle.serialize.proofs.Choice.{by_test}
use Rattle.replay_protection.specs.Replay.{Window, window, EMPTY, behind, repeated, spent, refusal_by, refusal, accepts, advance, arrive}

-- how far s is behind, compared with the width: the sum that this stands for is not formed
pub behind_by : (w most s : ℕ) {d : ℕ} → 0 < w → d ≡ most - s → leb w d ≡ behind w most s
unfolding behind
behind_by w most s {d} pos e =
    by_test (leb w d)
    (λ t. let h : s + w ≤ most = omega (arith, leb-true w d t) in simp (t, le-leb _ _ h))
    (λ f. let h : most < s + w = omega (arith, leb-false w d f) in simp (f, lt-leb _ _ h))

pub repeated_empty : (held s : ℕ) → held ≡ EMPTY → repeated held s ≡ false
unfolding repeated
repeated_empty held s e = simp (eq-eqb _ _ e)

pub repeated_held : (held s : ℕ) → held ≢ EMPTY → repeated held s ≡ leb s held
unfolding repeated
repeated_held held s n = simp (ne_eqb _ _ n)

module _ (w most held s : ℕ) where
  pub spent_behind : behind w most s ≡ true → spent w most held s ≡ true
  unfolding spent
  spent_behind e = simp e

  pub spent_near : behind w most s ≡ false → spent w most held s ≡ repeated held s
  unfolding spent
  spent_near e = simp e

  -- from 2^64 - w on the number is 5
  pub refusal_over : 2 ^ 64 ≤ s + w → refusal_by w most held s ≡ 5
  unfolding refusal_by pick
  refusal_over h = simp (le-leb _ _ h)

  -- below that the test decides, by 6 or by none
  pub refusal_below : s + w < 2 ^ 64 → refusal_by w most held s ≡ pick (spent w most held s) 6 0
  unfolding refusal_by pick
  refusal_below h = simp (lt-leb _ _ h)

  pub refusal_spent : s + w < 2 ^ 64 → spent w most held s ≡ true → refusal_by w most held s ≡ 6
  unfolding pick
  refusal_spent h e = simp (refusal_below h, e)

  pub refusal_none : s + w < 2 ^ 64 → spent w most held s ≡ false → refusal_by w most held s ≡ 0
  unfolding pick
  refusal_none h e = simp (refusal_below h, e)

module _ (w : ℕ) (win : Window) (s : ℕ) where
  -- an arrival that is not accepted leaves any window as it was, word for word
  pub refused_keeps : accepts w win s ≡ false → arrive w win s ≡ win
  unfolding arrive pick
  refused_keeps e = simp e

  -- the same by the number, and what one that is accepted leaves
  pub arrive_refused : refusal w win s ≢ 0 → arrive w win s ≡ win
  arrive_refused n = refused_keeps (ne_eqb _ _ n)

  pub arrive_accepted : refusal w win s ≡ 0 → arrive w win s ≡ advance w win s
  unfolding arrive pick
  arrive_accepted e = simp (eq-eqb _ _ e)

  -- the code's two ways out of an advance: p is the place, c the number and m the highest
  module _ {p c : ℕ} (here : p ≡ s % w) (number : c ≡ refusal_by w win.most (get_or win.ring p 0) s) where
    by_place_lem : c ≡ refusal w win s
    by_place_lem = number ∙ ap (λ (i : ℕ). refusal_by w win.most (get_or win.ring i 0) s) here

    pub advance_kept : c ≢ 0 → win ≡ arrive w win s
    advance_kept n = sym (arrive_refused (λ e. n (by_place_lem ∙ e)))

    pub advance_moved : {m : ℕ} → c ≡ 0 → m ≡ max win.most s → window m (set win.ring p s) ≡ arrive w win s
    unfolding advance
    advance_moved e h = ap₂ (λ (m i : ℕ). window m (set win.ring i s)) h here ∙ sym (arrive_accepted (sym by_place_lem ∙ e))
