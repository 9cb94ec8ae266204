-- Any two outcomes that satisfy a promise coincide (document 01, "What every promise pins down"): each promise is an equation for
-- all that a call can change. `Post` is the function's `ensures`, of its arguments a, its result x and its slices at exit e.
use mathlib.Core.Path.{◌≡◌}
use Rattle.serialize.proofs.Determined.{coincide}
use Rattle.replay_protection.proofs.ReplayProtection.new.Reads as new
use Rattle.replay_protection.proofs.ReplayProtection.already_received.Reads as already-received
use Rattle.replay_protection.proofs.ReplayProtection.refusal.Reads as refusal
use Rattle.replay_protection.proofs.ReplayProtection.advance_sequence.Reads as advance-sequence
use Rattle.replay_protection.proofs.ReplayProtection.advance_in_place.Reads as advance-in-place
use Rattle.replay_protection.proofs.table.load_window.Reads as load-window
use Rattle.replay_protection.proofs.table.store_window.Reads as store-window
use Rattle.replay_protection.proofs.table.refusal_at.Reads as refusal-at
use Rattle.replay_protection.proofs.table.advance_at.Reads as advance-at

-- ---- functions that return a value and write nothing

pub new_determined : (κs : _) (a : _) (x y : _) (e f : _) → new.Post κs a x e → new.Post κs a y f → x ≡ y
new_determined κs a x y e f p q = coincide p q

pub already_received_determined : (κs : _) (a : _) (x y : _) (e f : _) → already-received.Post κs a x e → already-received.Post κs a y f → x ≡ y
already_received_determined κs a x y e f p q = coincide p q

pub refusal_determined : (κs : _) (a : _) (x y : _) (e f : _) → refusal.Post κs a x e → refusal.Post κs a y f → x ≡ y
refusal_determined κs a x y e f p q = coincide p q

pub advance_sequence_determined : (κs : _) (a : _) (x y : _) (e f : _) → advance-sequence.Post κs a x e → advance-sequence.Post κs a y f → x ≡ y
advance_sequence_determined κs a x y e f p q = coincide p q

pub load_window_determined : (κs : _) (a : _) (x y : _) (e f : _) → load-window.Post κs a x e → load-window.Post κs a y f → x ≡ y
load_window_determined κs a x y e f p q = coincide p q

pub refusal_at_determined : (κs : _) (a : _) (x y : _) (e f : _) → refusal-at.Post κs a x e → refusal-at.Post κs a y f → x ≡ y
refusal_at_determined κs a x y e f p q = coincide p q

-- ---- functions that write a table

pub store_window_determined : (κs : _) (a : _) (x y : _) (e f : _) → store-window.Post κs a x e → store-window.Post κs a y f → e.0.now ≡ f.0.now
store_window_determined κs a x y e f p q = coincide p q

pub advance_at_determined : (κs : _) (a : _) (x y : _) (e f : _) → advance-at.Post κs a x e → advance-at.Post κs a y f → e.0.now ≡ f.0.now
advance_at_determined κs a x y e f p q = coincide p q

-- ---- and the window, where it lies

pub advance_in_place_determined : (κs : _) (a : _) (x y : _) (e f : _) → advance-in-place.Post κs a x e → advance-in-place.Post κs a y f → e.0.now ≡ f.0.now
advance_in_place_determined κs a x y e f p q = coincide p q
