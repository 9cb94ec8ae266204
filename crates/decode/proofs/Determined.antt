-- Any two outcomes that satisfy a promise coincide (document 01, "What every promise pins down"): each promise is an equation for
-- all that a call can change. `Post` is the function's `ensures`, of its arguments a, its result x and its slices at exit e.
use mathlib.Core.Path.{◌≡◌}
use Rattle.serialize.proofs.Determined.{coincide}
use Rattle.decode.proofs.reading.read_type.Reads as read-type
use Rattle.decode.proofs.reading.read_start.Reads as read-start
use Rattle.decode.proofs.reading.guard_refusal.Reads as guard-refusal
use Rattle.decode.proofs.reading.read_opened.Reads as read_opened
use Rattle.decode.proofs.reading.decode.Reads as decode
use Rattle.decode.proofs.reading.answer_open.Reads as answer-open
use Rattle.decode.proofs.token.decode_challenge.Reads as decode-challenge
use Rattle.decode.proofs.token.answer_challenge.Reads as answer-challenge

-- ---- functions that return a value and write nothing

pub read_type_determined : (κs : _) (a : _) (x y : _) (e f : _) → read-type.Post κs a x e → read-type.Post κs a y f → x ≡ y
read_type_determined κs a x y e f p q = coincide p q

pub read_start_determined : (κs : _) (a : _) (x y : _) (e f : _) → read-start.Post κs a x e → read-start.Post κs a y f → x ≡ y
read_start_determined κs a x y e f p q = coincide p q

pub guard_refusal_determined : (κs : _) (a : _) (x y : _) (e f : _) → guard-refusal.Post κs a x e → guard-refusal.Post κs a y f → x ≡ y
guard_refusal_determined κs a x y e f p q = coincide p q

pub read_opened_determined : (κs : _) (a : _) (x y : _) (e f : _) → read_opened.Post κs a x e → read_opened.Post κs a y f → x ≡ y
read_opened_determined κs a x y e f p q = coincide p q

pub decode_determined : (κs : _) (a : _) (x y : _) (e f : _) → decode.Post κs a x e → decode.Post κs a y f → x ≡ y
decode_determined κs a x y e f p q = coincide p q

pub answer_open_determined : (κs : _) (a : _) (x y : _) (e f : _) → answer-open.Post κs a x e → answer-open.Post κs a y f → x ≡ y
answer_open_determined κs a x y e f p q = coincide p q

pub decode_challenge_determined : (κs : _) (a : _) (x y : _) (e f : _) → decode-challenge.Post κs a x e → decode-challenge.Post κs a y f → x ≡ y
decode_challenge_determined κs a x y e f p q = coincide p q

pub answer_challenge_determined : (κs : _) (a : _) (x y : _) (e f : _) → answer-challenge.Post κs a x e → answer-challenge.Post κs a y f → x ≡ y
answer_challenge_determined κs a x y e f p q = coincide p q
