-- The window's theorems, over any width from 1 on and any arrivals: after every arrival the window is sound for what it accepted,
-- and what a sound window accepts is what is new.
use mathlib.Core.Path.{◌≡◌, refl}
use mathlib.Core.Logic.{⊎_elim, ∥∥₁_elim, ∥∥₁_map, ◌↔◌}
use mathlib.Core.HLevel.{⊥_prop}
use mathlib.Core.Bool.{Bool, true, false}
use mathlib.Core.List.Memᴰ.{cases_cons}
use mathlib.Core.List.Memᴰ.{head}
use mathlib.Core.List.Memᴰ.{not-nil}
use mathlib.Core.List.Memᴰ.{tail}
use mathlib.Core.List.{List, [], ◌∷◌, ◌++◌, Memᴰ as Member}
use mathlib.Core.List.Perm
use mathlib.Core.List.{Nodup, Mem, Perm, perm_ext_iff_of_Nodup}
use Prim.Native.Nat.{ℕ, ◌+◌, ◌^◌, ◌<◌}
use native.Mathlib.Decide.{ℕ_discrete}
use Rattle.serialize.specs.Choice.{pick}
use Rattle.replay_protection.specs.Replay.{refusal, accepts}
use Rattle.replay_protection.specs.Arrivals.{run, accepted, highest, New, Past, InTime}
use Rattle.replay_protection.proofs.Ways.{refused_keeps}
use Rattle.replay_protection.proofs.Sound.{Sound, sound_fresh, sound_one}
use Rattle.replay_protection.proofs.Exactly.{accepted_exactly, refused_exactly, sound_arrive}

-- ---- membership

-- whether a number is in a list is decided
dec_member : (t : ℕ) (l : List ℕ) → Dec (Member t l)
dec_member t [] = no not-nil
dec_member t (x ∷ l) = go (ℕ_discrete t x) (dec_member t l)
  where
    go : Dec (t ≡ x) → Dec (Member t l) → Dec (Member t (x ∷ l))
    go (yes e) d = yes (head e)
    go (no n) (yes m) = yes (tail m)
    go (no n) (no k) = no (λ m. ⊎_elim n k (cases_cons m))

-- so the library's truncated membership, of its permutations, gives this one
told : {t : ℕ} {l : List ℕ} → Mem t l → Member t l
told {t} {l} m = go (dec_member t l)
  where
    go : Dec (Member t l) → Member t l
    go (yes d) = d
    go (no n) = absurd (∥∥₁_elim m ⊥_prop n)

perm_members : {l l' : List ℕ} → Perm l l' → (t : ℕ) → Member t l ↔ Member t l'
perm_members p t = (λ m. told ((Perm.mem_iff p).0 ∣ m ∣₁), λ m. told ((Perm.mem_iff p).1 ∣ m ∣₁))

module _ (w : ℕ) (pos : 0 < w) where
  -- after any arrivals the window is sound for what it accepted
  pub run_sound : (arrivals : List ℕ) → Sound w (accepted w arrivals) (run w arrivals)
  unfolding run accepted
  run_sound [] = sound_fresh w
  run_sound (s ∷ before) = sound_arrive pos (run_sound before) s

  -- ---- 1. exactly when

  -- after any arrivals a sequence below 2^64 - w is accepted exactly when it is not among the accepted and less than w behind
  pub exactly_when : (arrivals : List ℕ) (s : ℕ) → s + w < 2 ^ 64 → (accepts w (run w arrivals) s ≡ true) ↔ New w (accepted w arrivals) s
  exactly_when arrivals s h = let q = accepted_exactly pos (run_sound arrivals) s in (λ e. (q.0 e).1, λ n. q.1 (h, n))

  -- it is refused as 6 exactly when it was accepted or its sum with w is at most the highest: document 01, "The window"
  pub six_exactly_when : (arrivals : List ℕ) (s : ℕ) → s + w < 2 ^ 64 → (refusal w (run w arrivals) s ≡ 6) ↔ Past w (accepted w arrivals) s
  six_exactly_when arrivals s h = refused_exactly pos (run_sound arrivals) s h

  -- ---- 2. once

  pub accepted_once : (arrivals : List ℕ) → Nodup (accepted w arrivals)
  accepted_once arrivals = (run_sound arrivals).once

  -- an arrival that is not accepted leaves the window as it was, word for word
  pub refused_same : (s : ℕ) (before : List ℕ) → accepts w (run w before) s ≡ false → run w (s ∷ before) ≡ run w before
  unfolding run
  refused_same s before e = refused_keeps w (run w before) s e

  -- only what arrived is accepted
  pub accepted_arrived : (arrivals : List ℕ) (t : ℕ) → Member t (accepted w arrivals) → Member t arrivals
  unfolding accepted pick
  accepted_arrived [] t m = m
  accepted_arrived (s ∷ before) t m = go (accepts w (run w before) s) (accepted_arrived before t) m
    where
      go : (b : Bool) {l : List ℕ} → (Member t l → Member t before) → Member t (pick b (s ∷ l) l) → Member t (s ∷ before)
      go true f n = ⊎_elim head (λ k. tail (f k)) (cases_cons n)
      go false f n = tail (f n)

  -- ---- 3. all that arrives in time

  -- what was accepted stays so
  pub accepted_stays : (later before : List ℕ) (t : ℕ) → Member t (accepted w before) → Member t (accepted w (later ++ before))
  unfolding accepted pick
  accepted_stays [] before t m = m
  accepted_stays (s ∷ later) before t m = go (accepts w (run w (later ++ before)) s) (accepted_stays later before t m)
    where
      go : (b : Bool) {l : List ℕ} → Member t l → Member t (pick b (s ∷ l) l)
      go true n = tail n
      go false n = n

  -- what arrives less than w behind the highest is among the accepted from then on
  accepted_near : (before : List ℕ) (s : ℕ) → s + w < 2 ^ 64 → highest (accepted w before) < s + w → Member s (accepted w (s ∷ before))
  unfolding accepted pick
  accepted_near before s h near = go (dec_member s (accepted w before))
    where
      go : Dec (Member s (accepted w before)) → Member s (accepted w (s ∷ before))
      go (yes m) = accepted_stays (s ∷ []) before s m
      go (no n) = rw ((exactly_when before s h).1 (n, near)) (head refl)

  -- so what arrives in time is accepted, whatever else arrives
  pub in_time_accepted : (arrivals : List ℕ) (s : ℕ) → InTime w arrivals s → Member s (accepted w arrivals)
  in_time_accepted arrivals s i = rw i.split (accepted_stays i.later (s ∷ i.before) s (accepted_near i.before s i.below i.near))

  module _ (arrivals sent : List ℕ) (only : (t : ℕ) → Member t arrivals → Member t sent) (each : (t : ℕ) → Member t sent → InTime w arrivals t) where
    -- if only what was sent arrives, and each of it in time, then just what was sent is accepted
    pub complete : (t : ℕ) → Member t (accepted w arrivals) ↔ Member t sent
    complete t = (λ m. only t (accepted_arrived arrivals t m), λ m. in_time_accepted arrivals t (each t m))

    -- and once each: where nothing was sent twice, the accepted are the sent in some order
    pub complete_once : Nodup sent → Perm (accepted w arrivals) sent
    complete_once d = (perm_ext_iff_of_Nodup (accepted_once arrivals) d).1 (λ t. (λ m. ∥∥₁_map m (complete t).0, λ m. ∥∥₁_map m (complete t).1))

  -- ---- 4. the order does not matter

  -- arrivals of which the same are accepted leave one window
  pub same_accepted : (arrivals arrivals' : List ℕ) → ((t : ℕ) → Member t (accepted w arrivals) ↔ Member t (accepted w arrivals')) → run w arrivals ≡ run w arrivals'
  same_accepted arrivals arrivals' f = sound_one (λ t. (f t).0) (λ t. (f t).1) (run_sound arrivals) (run_sound arrivals')

  -- so do two orders of the same arrivals that are all accepted
  pub any_order : (arrivals arrivals' : List ℕ) → Perm arrivals arrivals' → accepted w arrivals ≡ arrivals → accepted w arrivals' ≡ arrivals' → run w arrivals ≡ run w arrivals'
  any_order arrivals arrivals' p all all' = same_accepted arrivals arrivals' (rw (all, all') (perm_members p))
