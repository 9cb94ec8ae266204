-- What a window accepts and refuses, exactly, of any window that is sound for what it accepted: what the test refuses is past,
-- what it lets pass is new, and nothing is both.
use mathlib.Core.Path.{◌≡◌, refl, sym, ◌∙◌}
use mathlib.Core.Logic.{inl, inr, ◌↔◌}
use mathlib.Core.Bool.{Bool, true, false, false≢true}
use mathlib.Core.List.{List, ◌∷◌}
use Prim.Native.Nat.{ℕ, ◌+◌, ◌^◌, ◌≤◌, ◌<◌}
use native.Mathlib.Omega.{arith, by_contra}
use lib.Dec.{eqb}
use borrow.Author.Tests.{leb-false}
use Rattle.serialize.specs.Choice.{pick}
use Rattle.replay_protection.specs.Replay.{Window, placed, refusal_by, refuses, refusal, accepts, advance, arrive}
use Rattle.replay_protection.specs.Arrivals.{New, Past}
use Rattle.replay_protection.proofs.Ways.{refusal_over, refusal_below}
use Rattle.replay_protection.proofs.Sound.{Sound, sound_advance, refused, passed}

-- the number is 0 only by both tests
zero_number : (over spent : Bool) → eqb (pick over 5 (pick spent 6 0)) 0 ≡ true → (over ≡ false) × (spent ≡ false)
unfolding pick
zero_number true spent e = absurd (false≢true e)
zero_number false true e = absurd (false≢true e)
zero_number false false e = (refl, refl)

-- what any window accepts is below 2^64 - w, and the test lets it pass
pub accepts_true : (w : ℕ) (win : Window) (s : ℕ) → accepts w win s ≡ true → (s + w < 2 ^ 64) × (refuses w win s ≡ false)
unfolding refusal_by
accepts_true w win s e = let q = zero_number _ _ e in (leb-false (2 ^ 64) (s + w) q.0, q.1)

-- 5 is for 2^64 - w and up, whatever the window's words, and for nothing else
pub five_exactly : (w : ℕ) (win : Window) (s : ℕ) → (refusal w win s ≡ 5) ↔ (2 ^ 64 ≤ s + w)
unfolding pick
five_exactly w win s = (λ e. by_contra (2 ^ 64) (s + w) (λ l. below (refuses w win s) (sym (refusal_below w win.most (placed w win s) s l) ∙ e)), refusal_over w win.most (placed w win s) s)
  where
    below : (b : Bool) → pick {A = ℕ} b 6 0 ≡ 5 → ⊥
    below true e = omega arith
    below false e = omega arith

module _ {w : ℕ} (pos : 0 < w) {acc : List ℕ} {win : Window} (sound : Sound w acc win) (s : ℕ) where
  not_both : Past w acc s → New w acc s → ⊥
  not_both (inl m) n = n.0 m
  not_both (inr h) n = omega arith

  -- what is new, and below 2^64 - w, is accepted, and nothing else
  pub accepted_exactly : (accepts w win s ≡ true) ↔ ((s + w < 2 ^ 64) × New w acc s)
  unfolding pick
  accepted_exactly = (λ e. let q = accepts_true w win s e in (q.0, passed pos sound s q.1), λ p. rw (refusal_below w win.most (placed w win s) s p.0) (go p.1 (refuses w win s) refl))
    where
      go : New w acc s → (b : Bool) → refuses w win s ≡ b → eqb (pick b 6 0) 0 ≡ true
      go n true e = absurd (not_both (refused pos sound s e) n)
      go n false e = refl

  -- 6 is for what was accepted before, or whose sum with w is at most the highest, and for nothing else
  pub refused_exactly : s + w < 2 ^ 64 → (refusal w win s ≡ 6) ↔ Past w acc s
  unfolding pick
  refused_exactly h = rw (refusal_below w win.most (placed w win s) s h) (go (refuses w win s) refl)
    where
      go : (b : Bool) → refuses w win s ≡ b → (pick {A = ℕ} b 6 0 ≡ 6) ↔ Past w acc s
      go true e = (λ q. refused pos sound s e, λ o. refl)
      go false e = (λ q. absurd (omega arith), λ o. absurd (not_both o (passed pos sound s e)))

  -- an arrival keeps a window sound
  pub sound_arrive : Sound w (pick (accepts w win s) (s ∷ acc) acc) (arrive w win s)
  unfolding arrive pick
  sound_arrive = go (accepts w win s) refl
    where
      go : (b : Bool) → accepts w win s ≡ b → Sound w (pick b (s ∷ acc) acc) (pick b (advance w win s) win)
      go true e = let q = accepts_true w win s e in sound_advance pos sound s q.0 q.1
      go false e = sound
