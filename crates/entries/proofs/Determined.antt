-- Any two outcomes that satisfy a promise coincide (document 01, "What every promise pins down"): each promise is an equation for
-- all that a call can change. `Post` is the function's `ensures`, of its arguments a, its result x and its slices at exit e.
use mathlib.Core.Path.{◌≡◌, ap}
use Rattle.serialize.proofs.Determined.{coincide}
use Rattle.entries.specs.Finds.{Outcome, done}
use Rattle.entries.proofs.entries_refusal.Reads as entries-refusal
use Rattle.entries.proofs.count_entries.Reads as count_entries
use Rattle.entries.proofs.empty_entries.Reads as empty-entries
use Rattle.entries.proofs.find_or_add_connect_token_entry.Reads as find-or-add
use Rattle.entries.proofs.body.is_used.Reads as is-used
use Rattle.entries.proofs.body.time_at.Reads as time-at
use Rattle.entries.proofs.body.address_at.Reads as address-at
use Rattle.entries.proofs.body.is_match.Reads as is-match
use Rattle.entries.proofs.body.write_entry.Reads as write-entry
use Rattle.entries.proofs.find.find_match.Reads as find-match
use Rattle.entries.proofs.find.find_empty.Reads as find-empty
use Rattle.entries.proofs.find.find_oldest.Reads as find-oldest

-- ---- functions that return a value and write nothing

pub entries_refusal_determined : (κs : _) (a : _) (x y : _) (e f : _) → entries-refusal.Post κs a x e → entries-refusal.Post κs a y f → x ≡ y
entries_refusal_determined κs a x y e f p q = coincide p q

pub count_entries_determined : (κs : _) (a : _) (x y : _) (e f : _) → count_entries.Post κs a x e → count_entries.Post κs a y f → x ≡ y
count_entries_determined κs a x y e f p q = coincide p q

pub is_used_determined : (κs : _) (a : _) (x y : _) (e f : _) → is-used.Post κs a x e → is-used.Post κs a y f → x ≡ y
is_used_determined κs a x y e f p q = coincide p q

pub time_at_determined : (κs : _) (a : _) (x y : _) (e f : _) → time-at.Post κs a x e → time-at.Post κs a y f → x ≡ y
time_at_determined κs a x y e f p q = coincide p q

pub address_at_determined : (κs : _) (a : _) (x y : _) (e f : _) → address-at.Post κs a x e → address-at.Post κs a y f → x ≡ y
address_at_determined κs a x y e f p q = coincide p q

pub is_match_determined : (κs : _) (a : _) (x y : _) (e f : _) → is-match.Post κs a x e → is-match.Post κs a y f → x ≡ y
is_match_determined κs a x y e f p q = coincide p q

pub find_match_determined : (κs : _) (a : _) (x y : _) (e f : _) → find-match.Post κs a x e → find-match.Post κs a y f → x ≡ y
find_match_determined κs a x y e f p q = coincide p q

pub find_empty_determined : (κs : _) (a : _) (x y : _) (e f : _) → find-empty.Post κs a x e → find-empty.Post κs a y f → x ≡ y
find_empty_determined κs a x y e f p q = coincide p q

pub find_oldest_determined : (κs : _) (a : _) (x y : _) (e f : _) → find-oldest.Post κs a x e → find-oldest.Post κs a y f → x ≡ y
find_oldest_determined κs a x y e f p q = coincide p.0 q.0

-- ---- functions that write the entries

pub empty_entries_determined : (κs : _) (a : _) (x y : _) (e f : _) → empty-entries.Post κs a x e → empty-entries.Post κs a y f
    → e.0.now ≡ f.0.now
empty_entries_determined κs a x y e f p q = coincide p q

pub write_entry_determined : (κs : _) (a : _) (x y : _) (e f : _) → write-entry.Post κs a x e → write-entry.Post κs a y f → e.0.now ≡ f.0.now
write_entry_determined κs a x y e f p q = coincide p q

pub find_or_add_determined : (κs : _) (a : _) (x y : _) (e f : _) → find-or-add.Post κs a x e → find-or-add.Post κs a y f
    → (x ≡ y) × (e.0.now ≡ f.0.now)
find_or_add_determined κs a x y e f p q =
    let o : done x e.0.now ≡ done y f.0.now = coincide p q in
    (ap (λ (z : Outcome). z.answer) o, ap (λ (z : Outcome). z.entries) o)
