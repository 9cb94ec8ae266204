-- A window in a table is a run of w + 1 words, so the laws of runs say what loading, storing and the two words of an advance in
-- place leave; the laws in place follow from those by value.
use mathlib.Core.Path.{◌≡◌, refl, sym, ap, ap₂, ◌∙◌}
use mathlib.Core.Logic.{◌≢◌}
use mathlib.Core.List.{List, ◌∷◌}
use Prim.Native.Nat.{ℕ, ◌+◌, ◌%◌, ◌≤◌, ◌<◌, max}
use native.Mathlib.Nat.{add-zero, mod-lt}
use native.Mathlib.Omega.{arith}
use lib.ListN.{length, get_or, set, length-set}
use lib.Seq.{set-get_or}
use Rattle.serialize.specs.Choice.{pick}
use Rattle.serialize.specs.Runs.{part, splice}
use Rattle.serialize.proofs.Choice.{by_test}
use Rattle.serialize.proofs.Lists.{length_part, get_or_part, part_set_other, part_whole, splice_cons, splice_part, set_in_splice, length_splice, part_ext, get_or_splice_in, part_splice_in, part_splice_other}
use Rattle.replay_protection.specs.Replay.{Window, window, placed, refusal_by, refusal, accepts, advance, arrive}
use Rattle.replay_protection.specs.Stored.{window_at, put_window}
use Rattle.replay_protection.proofs.Ways.{arrive_refused, arrive_accepted}

module _ (w : ℕ) (t : List ℕ) (at : ℕ) (fits : at + 1 + w ≤ length t) where
  -- a store of the highest leaves the places
  ring_kept : (m : ℕ) → part (set t at m) (at + 1) w ≡ part t (at + 1) w
  ring_kept m = part_set_other t at m (at + 1) w fits (λ o h e. omega arith)

  -- the highest and a ring with v at place k, in two stores
  two_stores : (m k v : ℕ) → k < w → set (set t at m) (at + 1 + k) v ≡ splice t at (m ∷ set (part t (at + 1) w) k v)
  two_stores m k v h =
      let u : List ℕ = set t at m in
      let ring : List ℕ = part t (at + 1) w in
      let n : length ring ≡ w = length_part t (at + 1) w fits in
      let i : length u ≡ length t = length-set t at m in
      let j : length (set ring k v) ≡ length ring = length-set ring k v in
      ap (λ (x : List ℕ). set x (at + 1 + k) v) (sym (splice_part u (at + 1) w (omega arith)) ∙ ap (splice u (at + 1)) (ring_kept m))
      ∙ set_in_splice u (at + 1) ring k v (omega arith) (omega arith)
      ∙ splice_cons t at m (set ring k v) (omega arith)

  -- storing what was loaded changes nothing
  pub put_loaded : put_window t at (window_at w t at) ≡ t
  unfolding window_at put_window
  put_loaded =
      let ring : List ℕ = part t (at + 1) w in
      let n : length ring ≡ w = length_part t (at + 1) w fits in
      sym (splice_cons t at (get_or t at 0) ring (omega arith))
      ∙ ap (λ (x : List ℕ). splice x (at + 1) ring) (set-get_or t at 0)
      ∙ splice_part t (at + 1) w fits

  -- the code's ways in place: p is the place, c the number and m the highest
  module _ (pos : 0 < w) (s : ℕ) {p : ℕ} (here : p ≡ s % w) where
    -- what the place of s holds, where it lies in the table
    held_here : get_or t (at + 1 + p) 0 ≡ placed w (window_at w t at) s
    unfolding window_at
    held_here = ap (λ (i : ℕ). get_or t (at + 1 + i) 0) here ∙ sym (get_or_part t (at + 1) w (s % w) (mod-lt s pos))

    pub refusal_here : refusal_by w (get_or t at 0) (get_or t (at + 1 + p) 0) s ≡ refusal w (window_at w t at) s
    unfolding window_at
    refusal_here = ap (λ (h : ℕ). refusal_by w (get_or t at 0) h s) held_here

    module _ {c : ℕ} (number : c ≡ refusal_by w (get_or t at 0) (get_or t (at + 1 + p) 0) s) where
      -- a refused arrival leaves the table as it was
      pub kept_here : c ≢ 0 → t ≡ put_window t at (arrive w (window_at w t at) s)
      kept_here n = sym (ap (put_window t at) (arrive_refused w (window_at w t at) s (λ e. n (number ∙ refusal_here ∙ e))) ∙ put_loaded)

      -- an accepted one stores two words
      pub moved_here : {m : ℕ} → c ≡ 0 → m ≡ max (get_or t at 0) s → set (set t at m) (at + 1 + p) s ≡ put_window t at (arrive w (window_at w t at) s)
      unfolding window_at put_window advance
      moved_here e h =
          ap₂ (λ (m i : ℕ). set (set t at m) (at + 1 + i) s) h here
          ∙ two_stores (max (get_or t at 0) s) (s % w) s (mod-lt s pos)
          ∙ ap (put_window t at) (sym (arrive_accepted w (window_at w t at) s (sym (number ∙ refusal_here) ∙ e)))

module _ (t : List ℕ) (at : ℕ) (win : Window) (fits : at + 1 + length win.ring ≤ length t) where
  pub length_put : length (put_window t at win) ≡ length t
  unfolding put_window
  length_put = length_splice t at (win.most ∷ win.ring) (omega arith)

  -- what was stored is loaded
  pub put_loads : window_at (length win.ring) (put_window t at win) at ≡ win
  unfolding window_at put_window
  put_loads =
      let run : List ℕ = win.most ∷ win.ring in
      let here : at + length run ≤ length t = omega arith in
      ap₂ window
      (ap (λ (i : ℕ). get_or (splice t at run) i 0) (sym (add-zero at)) ∙ get_or_splice_in t at run 0 here (omega arith))
      (part_splice_in t at run 1 (length win.ring) here (omega arith) ∙ part_whole win.ring (length win.ring) refl)

  -- and nothing else of the table is changed
  pub put_other : (b n : ℕ) → b + n ≤ length t → ((o q : ℕ) → o < n → q < 1 + length win.ring → at + q ≡ b + o → ⊥) → part (put_window t at win) b n ≡ part t b n
  unfolding put_window
  put_other b n h d = part_splice_other t at (win.most ∷ win.ring) b n (omega arith) h (λ o q i j. d o q i (omega arith))

-- an arrival keeps the number of places
pub length_arrive : (w : ℕ) (win : Window) (s : ℕ) → length (arrive w win s).ring ≡ length win.ring
unfolding arrive advance pick
length_arrive w win s = by_test (accepts w win s) (λ e. simp (e, length-set)) (λ e. simp e)

-- so after an arrival in place the table's window is the one that arrived by value
pub arrived_loads : (w : ℕ) (t : List ℕ) (at s : ℕ) → at + 1 + w ≤ length t → window_at w (put_window t at (arrive w (window_at w t at) s)) at ≡ arrive w (window_at w t at) s
unfolding window_at
arrived_loads w t at s fits =
    let win : Window = arrive w (window_at w t at) s in
    let n : length win.ring ≡ w = length_arrive w (window_at w t at) s ∙ length_part t (at + 1) w fits in
    ap (λ (k : ℕ). window_at k (put_window t at win) at) (sym n) ∙ put_loads t at win (omega arith)

-- a window in a table is fixed by its own words
pub same_words : (w : ℕ) (t u : List ℕ) (at : ℕ) → at + 1 + w ≤ length t → at + 1 + w ≤ length u → ((i : ℕ) → i < 1 + w → get_or t (at + i) 0 ≡ get_or u (at + i) 0)
    → window_at w t at ≡ window_at w u at
unfolding window_at
same_words w t u at f g same =
    ap₂ window
    (simp add-zero at (same 0 (omega arith)))
    (part_ext t u (at + 1) (at + 1) w f g (λ i h.
    let e : at + 1 + i ≡ at + (1 + i) = omega arith in
    ap (λ (k : ℕ). get_or t k 0) e ∙ same (1 + i) (omega arith) ∙ ap (λ (k : ℕ). get_or u k 0) (sym e)))
