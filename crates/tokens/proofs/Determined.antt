-- Any two outcomes that satisfy a promise coincide (document 01, "What every promise pins down"): each promise is an equation for all that
-- a call gives or writes. `Post` is the function's `ensures`, of its arguments a, its result x and its slices at exit e.
use Rattle.std.proofs.Common.{◌≡◌, ap, sym, ◌∙◌, length, arith}
use Rattle.std.specs.Prelude.{drop}
use lib.ListN.{length-drop}
use Rattle.serialize.proofs.Determined.{coincide}
use Rattle.tokens.proofs.word_start.Reads as word_start
use Rattle.tokens.proofs.token.Reads as token
use Rattle.tokens.proofs.spaces.Reads as spaces
use Rattle.tokens.proofs.after_sign.Reads as after_sign
use Rattle.tokens.proofs.is_digit.Reads as is_digit
use Rattle.tokens.proofs.are_digits.Reads as are_digits
use Rattle.tokens.proofs.value.Reads as value
use Rattle.tokens.proofs.bytes.Reads as bytes
use Rattle.tokens.proofs.array.Reads as array

pub token_determined : (κs : _) (a : _) (x y : _) (e f : _) → token.Post κs a x e → token.Post κs a y f → x.now ≡ y.now
token_determined κs a x y e f p q = coincide p q

pub spaces_determined : (κs : _) (a : _) (x y : _) (e f : _) → spaces.Post κs a x e → spaces.Post κs a y f → x ≡ y
spaces_determined κs a x y e f p q = coincide p q

pub after_sign_determined : (κs : _) (a : _) (x y : _) (e f : _) → after_sign.Post κs a x e → after_sign.Post κs a y f → x ≡ y
after_sign_determined κs a x y e f p q = coincide p.0 q.0

-- what stands from an index on tells the index, within the line
pub word_start_determined : (κs : _) (a : _) (x y : _) (e f : _) → word_start.Post κs a x e → word_start.Post κs a y f → x ≡ y
word_start_determined κs a x y e f p q =
    let d = ap (λ l. length l) (coincide p.0 q.0) in
    omega (arith, d, length-drop x a.0.now, length-drop y a.0.now, p.1, q.1)

-- of any base, and of any length

pub is_digit_determined : (B b : _) (κs : _) (a : _) (x y : _) (e f : _) → is_digit.Post B b κs a x e → is_digit.Post B b κs a y f → x ≡ y
is_digit_determined B b κs a x y e f p q = coincide p q

pub are_digits_determined : (B b : _) (κs : _) (a : _) (x y : _) (e f : _) → are_digits.Post B b κs a x e → are_digits.Post B b κs a y f → x ≡ y
are_digits_determined B b κs a x y e f p q = coincide p q

pub value_determined : (B b : _) (κs : _) (a : _) (x y : _) (e f : _) → value.Post B b κs a x e → value.Post B b κs a y f → x ≡ y
value_determined B b κs a x y e f p q = coincide p q

pub array_determined : (N n : _) (κs : _) (a : _) (x y : _) (e f : _) → array.Post N n κs a x e → array.Post N n κs a y f → x ≡ y
array_determined N n κs a x y e f p q = coincide p q

pub bytes_determined : (κs : _) (a : _) (x y : _) (e f : _) → bytes.Post κs a x e → bytes.Post κs a y f → (x ≡ y) × (e.1.1.0.now ≡ f.1.1.0.now)
bytes_determined κs a x y e f p q = (coincide p.0 q.0, coincide p.1 q.1)
