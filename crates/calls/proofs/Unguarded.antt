-- decode leaves the window as it was, so the 257 words that were lent stay, as storing what was loaded would leave them. Without a window
-- neither call has one at any step, and the words stay likewise.
use mathlib.Core.Path.{◌≡◌, refl, sym, ap, ◌∙◌}
use mathlib.Core.Bool.{Bool, true, false, not}
use Prim.Native.Nat.{ℕ, ◌+◌, ◌≤◌}
use mathlib.Core.List.{List}
use lib.ListN.{length}
use lib.Dec.{eqb, ltb}
use Rattle.std.specs.Prelude.{◌&&◌, is_some, Option, Some, None, Result, Ok, Err}
use Rattle.serialize.specs.Choice.{pick}
use Rattle.serialize.proofs.Choice.{by_test}
use Rattle.replay_protection.specs.declared.ReplayProtection.{ReplayProtection}
use Rattle.replay_protection.specs.Stored.{window_at, put_window}
use Rattle.replay_protection.specs.Ours.{width}
use Rattle.replay_protection.proofs.Stored.{put_loaded}
use Rattle.bodies.specs.declared.PacketType.{PacketType}
use Rattle.bodies.specs.Kinds.{windowed, is_request}
use Rattle.asks.specs.Asks.{unlike}
use Rattle.decode.specs.declared.Decoded.{Decoded}
use Rattle.decode.specs.declared.Opening.{Opening}
use Rattle.decode.specs.declared.Start.{Start}
use Rattle.decode.specs.Decodes.{type_at, start_at, guard_refusal, guard_accepts, decode_at, by_start, decode_sealed, decode_of, by_kind, decode, answer_opened, answer_open}
use Rattle.calls.specs.Desk.{kept_on, decoded_desk, opening_of}
use Rattle.calls.specs.Packets.{Placed, placed, key_of, guard_of, window_left, decode_call, answer_open_call}

-- ---- decode leaves the window as it was lent, and where there was none there is none

module _ (d : List ℕ) (kind : PacketType) (protocol : ℕ) (guard : Option ReplayProtection) where
  past_head : (key : List ℕ) (sequence start : ℕ) → (decode_at d kind protocol key sequence start guard).guard ≡ guard
  unfolding decode_at pick
  past_head key sequence start =
      by_test (not (eqb (guard_refusal kind guard sequence) 0))
      (λ e. simp e)
      (λ e. by_test (ltb (length d) (start + 16)) (λ f. simp (e, f)) (λ f. simp (e, f)))

  by_head : (key : List ℕ) (s : Result Start ℕ) → (by_start d kind protocol key guard s).guard ≡ guard
  by_head key (Err n) = refl
  by_head key (Ok head) = past_head key head.sequence head.start

  sealed : (key : Option (List ℕ)) → (decode_sealed d kind protocol key guard).guard ≡ guard
  unfolding decode_sealed
  sealed (Some key) = by_head key (start_at d)
  sealed None = refl

  of_type : (key : Option (List ℕ)) → (decode_of d kind protocol key guard).guard ≡ guard
  unfolding decode_of pick
  of_type key = by_test (is_request kind) (λ e. simp e) (λ e. simp e (sealed key))

typed : (d : List ℕ) (protocol : ℕ) (key : Option (List ℕ)) (guard : Option ReplayProtection) (t : Result PacketType ℕ)
    → (by_kind d protocol key guard t).guard ≡ guard
typed d protocol key guard (Err n) = refl
typed d protocol key guard (Ok kind) = of_type d kind protocol guard key

pub decode_keeps : (d : List ℕ) (protocol : ℕ) (key : Option (List ℕ)) (guard : Option ReplayProtection) → (decode d protocol key guard).guard ≡ guard
unfolding decode
decode_keeps d protocol key guard = typed d protocol key guard (type_at d)

pub decode_unguarded : (d : List ℕ) (protocol : ℕ) (key : Option (List ℕ)) → (decode d protocol key None).guard ≡ None
decode_unguarded d protocol key = decode_keeps d protocol key None

opened : (kind : PacketType) (sequence start len : ℕ) (d : List ℕ) (granted : Bool) → (answer_opened kind sequence start len d None granted).guard ≡ None
unfolding answer_opened guard_accepts pick
opened kind sequence start len d granted =
    by_test (unlike start 16 len (length d))
    (λ u. simp u)
    (λ u. by_test granted (λ g. by_test (windowed kind) (λ w. simp (u, g, w)) (λ w. simp (u, g, w))) (λ g. simp (u, g)))

pub answer_unguarded : (opening : Option Opening) (d : List ℕ) (granted : Bool) → (answer_open opening d None granted).guard ≡ None
answer_unguarded None d granted = refl
answer_unguarded (Some ask) d granted = opened ask.kind ask.sequence ask.start ask.len d granted

-- ---- so the words that were lent are as they were, which is what a window loaded from them and stored again makes of them

module _ (words : List ℕ) where
  pub decode_words : (d : List ℕ) (protocol : ℕ) (keyed : Bool) (key : List ℕ) → (decode_call d protocol keyed key false words).lent ≡ words
  decode_words d protocol keyed key = ap (window_left words) (decode_unguarded d protocol (key_of keyed key))

  pub answer_words : (desk d : List ℕ) (granted : Bool) → (answer_open_call desk d false words granted).lent ≡ words
  answer_words desk d granted = ap (window_left words) (answer_unguarded (opening_of (kept_on desk)) d granted)

  pub words_loaded : 0 + 1 + width ≤ length words → words ≡ put_window words 0 (window_at width words 0)
  words_loaded enough = sym (put_loaded width words 0 enough)

  loaded_left : 0 + 1 + width ≤ length words → (guarded : Bool) → words ≡ window_left words (guard_of guarded words)
  loaded_left enough true = words_loaded enough
  loaded_left enough false = refl

  -- decode has nothing to store: the words lent are what storing its window would leave
  pub decode_left : 0 + 1 + width ≤ length words → (d : List ℕ) (protocol : ℕ) (key : Option (List ℕ)) (guarded : Bool)
      (guard : Option ReplayProtection) (r : Decoded) → guard ≡ guard_of guarded words → r ≡ decode d protocol key guard
      → words ≡ window_left words r.guard
  decode_left enough d protocol key guarded guard r g p =
      loaded_left enough guarded
      ∙ ap (window_left words) (sym (ap (λ (x : Decoded). x.guard) p ∙ decode_keeps d protocol key guard ∙ g))

  -- nor has answer_open, but for a yes to an open ask: else it needs no window
  abbrev answered : Option Opening → List ℕ → Option ReplayProtection → Bool → Placed
  answered opening d guard granted =
      placed (decoded_desk (answer_open opening d guard granted)) (window_left words (answer_open opening d guard granted).guard)

  said_no : 0 + 1 + width ≤ length words → (ask : Opening) (d : List ℕ)
      → answered (Some ask) d None false ≡ answered (Some ask) d (guard_of true words) false
  unfolding answer_opened pick
  said_no enough ask d =
      by_test (unlike ask.start 16 ask.len (length d))
      (λ u. simp u (ap (placed _) (words_loaded enough)))
      (λ u. simp u (ap (placed _) (words_loaded enough)))

  pub answer_left : 0 + 1 + width ≤ length words → (opening : Option Opening) (d : List ℕ) (guarded granted : Bool)
      → answered opening d (guard_of (guarded && (granted && is_some opening)) words) granted ≡ answered opening d (guard_of guarded words) granted
  answer_left enough opening d false granted = refl
  answer_left enough None d true true = ap (placed (decoded_desk (answer_open None d None true))) (words_loaded enough)
  answer_left enough None d true false = ap (placed (decoded_desk (answer_open None d None false))) (words_loaded enough)
  answer_left enough (Some ask) d true true = refl
  answer_left enough (Some ask) d true false = said_no enough ask d
