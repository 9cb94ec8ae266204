-- Any two outcomes that satisfy a promise coincide (document 01, "What every promise pins down"): each promise is an equation for
-- all that a call can change. `Post` is the function's `ensures`, of its arguments a, its result x and its slices at exit e.
use mathlib.Core.Path.{◌≡◌}
use Rattle.serialize.proofs.Determined.{coincide}
use Rattle.records.proofs.fields.is_confirmed.Reads as is-confirmed
use Rattle.records.proofs.fields.timeout_seconds.Reads as timeout-seconds
use Rattle.records.proofs.fields.sequence.Reads as sequence
use Rattle.records.proofs.fields.expire_timestamp.Reads as expire-timestamp
use Rattle.records.proofs.fields.received_time.Reads as received-time
use Rattle.records.proofs.fields.sent_time.Reads as sent-time
use Rattle.records.proofs.fields.send_key.Reads as send-key
use Rattle.records.proofs.fields.receive_key.Reads as receive-key
use Rattle.records.proofs.fields.user_data.Reads as user-data
use Rattle.records.proofs.fields.load_window.Reads as load-window
use Rattle.records.proofs.fields.window_refusal.Reads as window-refusal
use Rattle.records.proofs.fields.confirm.Reads as confirm
use Rattle.records.proofs.fields.set_sequence.Reads as set-sequence
use Rattle.records.proofs.fields.set_received_time.Reads as set-received-time
use Rattle.records.proofs.fields.set_sent_time.Reads as set-sent-time
use Rattle.records.proofs.fields.set_user_data.Reads as set-user-data
use Rattle.records.proofs.fields.store_window.Reads as store-window
use Rattle.records.proofs.fields.advance_window.Reads as advance-window
use Rattle.records.proofs.whole.fill.Reads as fill
use Rattle.records.proofs.whole.empty.Reads as empty
use Rattle.records.proofs.whole.empty_all.Reads as empty-all
use Rattle.records.proofs.whole.move_record.Reads as move-record

-- ---- functions that return a value and write nothing

pub is_confirmed_determined : (κs : _) (a : _) (x y : _) (e f : _) → is-confirmed.Post κs a x e → is-confirmed.Post κs a y f → x ≡ y
is_confirmed_determined κs a x y e f p q = coincide p q

pub timeout_seconds_determined : (κs : _) (a : _) (x y : _) (e f : _) → timeout-seconds.Post κs a x e → timeout-seconds.Post κs a y f → x ≡ y
timeout_seconds_determined κs a x y e f p q = coincide p q

pub sequence_determined : (κs : _) (a : _) (x y : _) (e f : _) → sequence.Post κs a x e → sequence.Post κs a y f → x ≡ y
sequence_determined κs a x y e f p q = coincide p q

pub expire_timestamp_determined : (κs : _) (a : _) (x y : _) (e f : _) → expire-timestamp.Post κs a x e → expire-timestamp.Post κs a y f → x ≡ y
expire_timestamp_determined κs a x y e f p q = coincide p q

pub received_time_determined : (κs : _) (a : _) (x y : _) (e f : _) → received-time.Post κs a x e → received-time.Post κs a y f → x ≡ y
received_time_determined κs a x y e f p q = coincide p q

pub sent_time_determined : (κs : _) (a : _) (x y : _) (e f : _) → sent-time.Post κs a x e → sent-time.Post κs a y f → x ≡ y
sent_time_determined κs a x y e f p q = coincide p q

pub send_key_determined : (κs : _) (a : _) (x y : _) (e f : _) → send-key.Post κs a x e → send-key.Post κs a y f → x ≡ y
send_key_determined κs a x y e f p q = coincide p q

pub receive_key_determined : (κs : _) (a : _) (x y : _) (e f : _) → receive-key.Post κs a x e → receive-key.Post κs a y f → x ≡ y
receive_key_determined κs a x y e f p q = coincide p q

pub user_data_determined : (κs : _) (a : _) (x y : _) (e f : _) → user-data.Post κs a x e → user-data.Post κs a y f → x ≡ y
user_data_determined κs a x y e f p q = coincide p q

pub load_window_determined : (κs : _) (a : _) (x y : _) (e f : _) → load-window.Post κs a x e → load-window.Post κs a y f → x ≡ y
load_window_determined κs a x y e f p q = coincide p q

pub window_refusal_determined : (κs : _) (a : _) (x y : _) (e f : _) → window-refusal.Post κs a x e → window-refusal.Post κs a y f → x ≡ y
window_refusal_determined κs a x y e f p q = coincide p q

-- ---- functions that write a table

pub confirm_determined : (κs : _) (a : _) (x y : _) (e f : _) → confirm.Post κs a x e → confirm.Post κs a y f → e.0.now ≡ f.0.now
confirm_determined κs a x y e f p q = coincide p q

pub set_sequence_determined : (κs : _) (a : _) (x y : _) (e f : _) → set-sequence.Post κs a x e → set-sequence.Post κs a y f → e.0.now ≡ f.0.now
set_sequence_determined κs a x y e f p q = coincide p q

pub set_received_time_determined : (κs : _) (a : _) (x y : _) (e f : _) → set-received-time.Post κs a x e → set-received-time.Post κs a y f → e.0.now ≡ f.0.now
set_received_time_determined κs a x y e f p q = coincide p q

pub set_sent_time_determined : (κs : _) (a : _) (x y : _) (e f : _) → set-sent-time.Post κs a x e → set-sent-time.Post κs a y f → e.0.now ≡ f.0.now
set_sent_time_determined κs a x y e f p q = coincide p q

pub set_user_data_determined : (κs : _) (a : _) (x y : _) (e f : _) → set-user-data.Post κs a x e → set-user-data.Post κs a y f → e.0.now ≡ f.0.now
set_user_data_determined κs a x y e f p q = coincide p q

pub store_window_determined : (κs : _) (a : _) (x y : _) (e f : _) → store-window.Post κs a x e → store-window.Post κs a y f → e.0.now ≡ f.0.now
store_window_determined κs a x y e f p q = coincide p q

pub advance_window_determined : (κs : _) (a : _) (x y : _) (e f : _) → advance-window.Post κs a x e → advance-window.Post κs a y f → e.0.now ≡ f.0.now
advance_window_determined κs a x y e f p q = coincide p q

pub fill_determined : (κs : _) (a : _) (x y : _) (e f : _) → fill.Post κs a x e → fill.Post κs a y f → e.0.now ≡ f.0.now
fill_determined κs a x y e f p q = coincide p q

pub empty_determined : (κs : _) (a : _) (x y : _) (e f : _) → empty.Post κs a x e → empty.Post κs a y f → e.0.now ≡ f.0.now
empty_determined κs a x y e f p q = coincide p q

pub empty_all_determined : (κs : _) (a : _) (x y : _) (e f : _) → empty-all.Post κs a x e → empty-all.Post κs a y f → e.0.now ≡ f.0.now
empty_all_determined κs a x y e f p q = coincide p q

-- ---- the move, which writes both

pub move_record_determined : (κs : _) (a : _) (x y : _) (e f : _) → move-record.Post κs a x e → move-record.Post κs a y f → (e.0.now ≡ f.0.now) × (e.1.1.1.0.now ≡ f.1.1.1.0.now)
move_record_determined κs a x y e f p q = (coincide p.0 q.0, coincide p.1 q.1)
