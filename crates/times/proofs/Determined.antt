-- Any two outcomes that satisfy a promise coincide (document 01, "What every promise pins down"): each promise is an equation for
-- the result, which is all that a call gives. `Post` is the function's `ensures`, of its arguments a and its result x.
use mathlib.Core.Path.{◌≡◌}
use Rattle.serialize.proofs.Determined.{coincide}
use Rattle.times.proofs.Time.zero.Reads as zero
use Rattle.times.proofs.Time.add.Reads as add
use Rattle.times.proofs.Time.is_before.Reads as is-before
use Rattle.times.proofs.Time.is_past.Reads as is-past
use Rattle.times.proofs.Time.is_due.Reads as is-due
use Rattle.times.proofs.Time.since.Reads as since

pub zero_determined : (κs : _) (a : _) (x y : _) (e f : _) → zero.Post κs a x e → zero.Post κs a y f → x ≡ y
zero_determined κs a x y e f p q = coincide p q

pub add_determined : (κs : _) (a : _) (x y : _) (e f : _) → add.Post κs a x e → add.Post κs a y f → x ≡ y
add_determined κs a x y e f p q = coincide p q

pub is_before_determined : (κs : _) (a : _) (x y : _) (e f : _) → is-before.Post κs a x e → is-before.Post κs a y f → x ≡ y
is_before_determined κs a x y e f p q = coincide p q

pub is_past_determined : (κs : _) (a : _) (x y : _) (e f : _) → is-past.Post κs a x e → is-past.Post κs a y f → x ≡ y
is_past_determined κs a x y e f p q = coincide p q

pub is_due_determined : (κs : _) (a : _) (x y : _) (e f : _) → is-due.Post κs a x e → is-due.Post κs a y f → x ≡ y
is_due_determined κs a x y e f p q = coincide p q

pub since_determined : (κs : _) (a : _) (x y : _) (e f : _) → since.Post κs a x e → since.Post κs a y f → x ≡ y
since_determined κs a x y e f p q = coincide p q
