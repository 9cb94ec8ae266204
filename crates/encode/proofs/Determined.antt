-- Any two outcomes that satisfy a promise coincide (document 01, "What every promise pins down"): each promise is an equation for
-- all that a call can change. `Post` is the function's `ensures`, of its arguments a, its result x and its slices at exit e.
use mathlib.Core.Path.{◌≡◌}
use Rattle.serialize.proofs.Determined.{coincide}
use Rattle.encode.specs.Encodes.{done}
use Rattle.encode.proofs.writing.answer_seal.Reads as answer-seal
use Rattle.encode.proofs.writing.answered.Reads as answered
use Rattle.encode.proofs.writing.refused.Reads as refused
use Rattle.encode.proofs.writing.encode.Reads as encode
use Rattle.encode.proofs.token.generate_challenge.Reads as generate-challenge

-- ---- functions that return a value and write nothing

pub answer_seal_determined : (κs : _) (a : _) (x y : _) (e f : _) → answer-seal.Post κs a x e → answer-seal.Post κs a y f → x ≡ y
answer_seal_determined κs a x y e f p q = coincide p q

pub answered_determined : (κs : _) (a : _) (x y : _) (e f : _) → answered.Post κs a x e → answered.Post κs a y f → x ≡ y
answered_determined κs a x y e f p q = coincide p q

pub refused_determined : (κs : _) (a : _) (x y : _) (e f : _) → refused.Post κs a x e → refused.Post κs a y f → x ≡ y
refused_determined κs a x y e f p q = coincide p q

-- ---- functions that write a buffer: answer, ask, what is kept open, and the buffer

pub encode_determined : (κs : _) (a : _) (x y : _) (e f : _) → encode.Post κs a x e → encode.Post κs a y f → done x e.0.now ≡ done y f.0.now
encode_determined κs a x y e f p q = coincide p q

pub generate_challenge_determined : (κs : _) (a : _) (x y : _) (e f : _) → generate-challenge.Post κs a x e → generate-challenge.Post κs a y f → done x e.0.now ≡ done y f.0.now
generate_challenge_determined κs a x y e f p q = coincide p q
