-- Any two outcomes that satisfy a promise coincide (document 01, "What every promise pins down"): each promise is an equation for
-- the result, and nothing lent is written. `Post` is the function's `ensures`, of its arguments a, its result x and its slices at exit e.
use mathlib.Core.Path.{◌≡◌}
use Rattle.serialize.proofs.Determined.{coincide}
use Rattle.addresses.proofs.Address.new.Reads as new
use Rattle.addresses.proofs.Address.bytes.Reads as bytes
use Rattle.addresses.proofs.Address.refusal.Reads as refusal
use Rattle.addresses.proofs.AddressPartialEq.eq.Reads as equals
use Rattle.addresses.proofs.Address.first_word.Reads as first_word
use Rattle.addresses.proofs.Address.from_words.Reads as from-words
use Rattle.addresses.proofs.has_words.Reads as has_words
use Rattle.addresses.proofs.list.count_addresses.Reads as count-addresses
use Rattle.addresses.proofs.list.address_at.Reads as address-at
use Rattle.addresses.proofs.list.find_malformed.Reads as find-malformed
use Rattle.addresses.proofs.list.list_refusal.Reads as list-refusal
use Rattle.addresses.proofs.list.find_words.Reads as find-words
use Rattle.addresses.proofs.list.any_ours.Reads as any-ours

pub new_determined : (κs : _) (a : _) (x y : _) (e f : _) → new.Post κs a x e → new.Post κs a y f → x ≡ y
new_determined κs a x y e f p q = coincide p q

pub bytes_determined : (κs : _) (a : _) (x y : _) (e f : _) → bytes.Post κs a x e → bytes.Post κs a y f → x ≡ y
bytes_determined κs a x y e f p q = coincide p q

pub refusal_determined : (κs : _) (a : _) (x y : _) (e f : _) → refusal.Post κs a x e → refusal.Post κs a y f → x ≡ y
refusal_determined κs a x y e f p q = coincide p q

pub equals_determined : (κs : _) (a : _) (x y : _) (e f : _) → equals.Post κs a x e → equals.Post κs a y f → x ≡ y
equals_determined κs a x y e f p q = coincide p q

pub first_word_determined : (κs : _) (a : _) (x y : _) (e f : _) → first_word.Post κs a x e → first_word.Post κs a y f → x ≡ y
first_word_determined κs a x y e f p q = coincide p q

pub from_words_determined : (κs : _) (a : _) (x y : _) (e f : _) → from-words.Post κs a x e → from-words.Post κs a y f → x ≡ y
from_words_determined κs a x y e f p q = coincide p q

pub has_words_determined : (κs : _) (a : _) (x y : _) (e f : _) → has_words.Post κs a x e → has_words.Post κs a y f → x ≡ y
has_words_determined κs a x y e f p q = coincide p q

pub count_addresses_determined : (κs : _) (a : _) (x y : _) (e f : _) → count-addresses.Post κs a x e → count-addresses.Post κs a y f → x ≡ y
count_addresses_determined κs a x y e f p q = coincide p q

pub address_at_determined : (κs : _) (a : _) (x y : _) (e f : _) → address-at.Post κs a x e → address-at.Post κs a y f → x ≡ y
address_at_determined κs a x y e f p q = coincide p q

pub find_malformed_determined : (κs : _) (a : _) (x y : _) (e f : _) → find-malformed.Post κs a x e → find-malformed.Post κs a y f → x ≡ y
find_malformed_determined κs a x y e f p q = coincide p q

pub list_refusal_determined : (κs : _) (a : _) (x y : _) (e f : _) → list-refusal.Post κs a x e → list-refusal.Post κs a y f → x ≡ y
list_refusal_determined κs a x y e f p q = coincide p q

pub find_words_determined : (κs : _) (a : _) (x y : _) (e f : _) → find-words.Post κs a x e → find-words.Post κs a y f → x ≡ y
find_words_determined κs a x y e f p q = coincide p q

pub any_ours_determined : (κs : _) (a : _) (x y : _) (e f : _) → any-ours.Post κs a x e → any-ours.Post κs a y f → x ≡ y
any_ours_determined κs a x y e f p q = coincide p q
