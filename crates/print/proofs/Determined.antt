-- Any two outcomes that satisfy a promise coincide: each verdict is fixed by what came out and what was wanted, where the line could be
-- written. What is printed no promise can speak of, nor which error a stream gives.
use Rattle.std.specs.Prelude.{◌≡◌, ℕ, Ok}
use Rattle.serialize.proofs.Determined.{coincide}
use Rattle.print.proofs.bytes.Reads as bytes
use Rattle.print.proofs.number.Reads as number
use Rattle.print.proofs.refused.Reads as refused

pub bytes_determined : (κs : _) (a : _) (x y : ℕ) (e f : _) → bytes.Post κs a (Ok x) e → bytes.Post κs a (Ok y) f → x ≡ y
bytes_determined κs a x y e f p q = coincide p.0 q.0

pub number_determined : (κs : _) (a : _) (x y : ℕ) (e f : _) → number.Post κs a (Ok x) e → number.Post κs a (Ok y) f → x ≡ y
number_determined κs a x y e f p q = coincide p.0 q.0

pub refused_determined : (κs : _) (a : _) (x y : ℕ) (e f : _) → refused.Post κs a (Ok x) e → refused.Post κs a (Ok y) f → x ≡ y
refused_determined κs a x y e f p q = coincide p.0 q.0
