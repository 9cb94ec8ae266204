-- Any two outcomes that satisfy a promise coincide (document 01, "What every promise pins down"): no function here writes, and each
-- promise is an equation for the result. `Post` is the function's `ensures`, of its arguments a, its result x and its slices at exit e.
use mathlib.Core.Path.{◌≡◌}
use Rattle.serialize.proofs.Determined.{coincide}
use Rattle.places.proofs.count_places.Reads as count-places
use Rattle.places.proofs.places_refusal.Reads as places-refusal
use Rattle.places.proofs.is_used.Reads as is-used
use Rattle.places.proofs.client_id.Reads as client-id
use Rattle.places.proofs.address.Reads as address
use Rattle.places.proofs.find.find_by_address.Reads as find-by-address
use Rattle.places.proofs.find.find_by_id.Reads as find-by-id
use Rattle.places.proofs.find.find_free.Reads as find-free
use Rattle.places.proofs.find.count_used.Reads as count-used

pub count_places_determined : (κs : _) (a : _) (x y : _) (e f : _) → count-places.Post κs a x e → count-places.Post κs a y f → x ≡ y
count_places_determined κs a x y e f p q = coincide p q

pub places_refusal_determined : (κs : _) (a : _) (x y : _) (e f : _) → places-refusal.Post κs a x e → places-refusal.Post κs a y f → x ≡ y
places_refusal_determined κs a x y e f p q = coincide p q

pub is_used_determined : (κs : _) (a : _) (x y : _) (e f : _) → is-used.Post κs a x e → is-used.Post κs a y f → x ≡ y
is_used_determined κs a x y e f p q = coincide p q

pub client_id_determined : (κs : _) (a : _) (x y : _) (e f : _) → client-id.Post κs a x e → client-id.Post κs a y f → x ≡ y
client_id_determined κs a x y e f p q = coincide p q

pub address_determined : (κs : _) (a : _) (x y : _) (e f : _) → address.Post κs a x e → address.Post κs a y f → x ≡ y
address_determined κs a x y e f p q = coincide p q

pub find_by_address_determined : (κs : _) (a : _) (x y : _) (e f : _) → find-by-address.Post κs a x e → find-by-address.Post κs a y f → x ≡ y
find_by_address_determined κs a x y e f p q = coincide p q

pub find_by_id_determined : (κs : _) (a : _) (x y : _) (e f : _) → find-by-id.Post κs a x e → find-by-id.Post κs a y f → x ≡ y
find_by_id_determined κs a x y e f p q = coincide p q

pub find_free_determined : (κs : _) (a : _) (x y : _) (e f : _) → find-free.Post κs a x e → find-free.Post κs a y f → x ≡ y
find_free_determined κs a x y e f p q = coincide p q

pub count_used_determined : (κs : _) (a : _) (x y : _) (e f : _) → count-used.Post κs a x e → count-used.Post κs a y f → x ≡ y
count_used_determined κs a x y e f p q = coincide p q
