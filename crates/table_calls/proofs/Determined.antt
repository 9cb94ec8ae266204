-- Any two outcomes that satisfy a promise coincide (document 01, "What every promise pins down"): each promise is an equation for the
-- number and for the list that a call can write. `Post` is the function's `ensures`, of its arguments a, its result x and its slices at
-- exit e.
use mathlib.Core.Path.{◌≡◌}
use Rattle.serialize.proofs.Determined.{coincide}
use Rattle.table_calls.specs.Calls.{told}
use Rattle.table_calls.proofs.moments.pump_time_add.Reads as pump-time-add
use Rattle.table_calls.proofs.moments.pump_time_before.Reads as pump-time-before
use Rattle.table_calls.proofs.moments.pump_time_past.Reads as pump-time-past
use Rattle.table_calls.proofs.moments.pump_time_due.Reads as pump-time-due
use Rattle.table_calls.proofs.moments.pump_time_since.Reads as pump-time-since
use Rattle.table_calls.proofs.finds.pump_find_by_address.Reads as pump-find-by-address
use Rattle.table_calls.proofs.finds.pump_find_by_id.Reads as pump-find-by-id
use Rattle.table_calls.proofs.finds.pump_find_free.Reads as pump-find-free
use Rattle.table_calls.proofs.finds.pump_count_used.Reads as pump-count-used
use Rattle.table_calls.proofs.finds.pump_address.Reads as pump-address
use Rattle.table_calls.proofs.finds.pump_any_ours.Reads as pump-any-ours
use Rattle.table_calls.proofs.entries_call.pump_find_or_add_entry.Reads as pump-find-or-add-entry

pub pump_time_add_determined : (κs : _) (a : _) (x y : _) (e f : _) → pump-time-add.Post κs a x e → pump-time-add.Post κs a y f → told x e.1.1.1.1.0.now ≡ told y f.1.1.1.1.0.now
pump_time_add_determined κs a x y e f p q = coincide p q

pub pump_time_before_determined : (κs : _) (a : _) (x y : _) (e f : _) → pump-time-before.Post κs a x e → pump-time-before.Post κs a y f → x ≡ y
pump_time_before_determined κs a x y e f p q = coincide p q

pub pump_time_past_determined : (κs : _) (a : _) (x y : _) (e f : _) → pump-time-past.Post κs a x e → pump-time-past.Post κs a y f → x ≡ y
pump_time_past_determined κs a x y e f p q = coincide p q

pub pump_time_due_determined : (κs : _) (a : _) (x y : _) (e f : _) → pump-time-due.Post κs a x e → pump-time-due.Post κs a y f → x ≡ y
pump_time_due_determined κs a x y e f p q = coincide p q

pub pump_time_since_determined : (κs : _) (a : _) (x y : _) (e f : _) → pump-time-since.Post κs a x e → pump-time-since.Post κs a y f → e.1.1.1.1.0.now ≡ f.1.1.1.1.0.now
pump_time_since_determined κs a x y e f p q = coincide p q

pub pump_find_by_address_determined : (κs : _) (a : _) (x y : _) (e f : _) → pump-find-by-address.Post κs a x e → pump-find-by-address.Post κs a y f → told x e.1.1.1.1.0.now ≡ told y f.1.1.1.1.0.now
pump_find_by_address_determined κs a x y e f p q = coincide p q

pub pump_find_by_id_determined : (κs : _) (a : _) (x y : _) (e f : _) → pump-find-by-id.Post κs a x e → pump-find-by-id.Post κs a y f → told x e.1.1.0.now ≡ told y f.1.1.0.now
pump_find_by_id_determined κs a x y e f p q = coincide p q

pub pump_find_free_determined : (κs : _) (a : _) (x y : _) (e f : _) → pump-find-free.Post κs a x e → pump-find-free.Post κs a y f → told x e.1.0.now ≡ told y f.1.0.now
pump_find_free_determined κs a x y e f p q = coincide p q

pub pump_count_used_determined : (κs : _) (a : _) (x y : _) (e f : _) → pump-count-used.Post κs a x e → pump-count-used.Post κs a y f → told x e.1.0.now ≡ told y f.1.0.now
pump_count_used_determined κs a x y e f p q = coincide p q

pub pump_address_determined : (κs : _) (a : _) (x y : _) (e f : _) → pump-address.Post κs a x e → pump-address.Post κs a y f → told x e.1.1.1.0.now ≡ told y f.1.1.1.0.now
pump_address_determined κs a x y e f p q = coincide p q

pub pump_any_ours_determined : (κs : _) (a : _) (x y : _) (e f : _) → pump-any-ours.Post κs a x e → pump-any-ours.Post κs a y f → x ≡ y
pump_any_ours_determined κs a x y e f p q = coincide p q

pub pump_find_or_add_entry_determined : (κs : _) (a : _) (x y : _) (e f : _) → pump-find-or-add-entry.Post κs a x e → pump-find-or-add-entry.Post κs a y f → told x e.0.now ≡ told y f.0.now
pump_find_or_add_entry_determined κs a x y e f p q = coincide p q
