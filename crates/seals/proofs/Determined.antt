-- Any two outcomes that satisfy a promise coincide (document 01, "What every promise pins down"): the promise is an equation for the result
-- with both tables. `Post` is the function's `ensures`, of its arguments a, its result x and its slices at exit e.
use mathlib.Core.Path.{◌≡◌}
use Rattle.serialize.proofs.Determined.{coincide}
use Rattle.turns.specs.Outcomes.{came}
use Rattle.seals.proofs.answer_seal.Reads as answer-seal

pub answer_seal_determined : (κs : _) (a : _) (x y : _) (e f : _) → answer-seal.Post κs a x e → answer-seal.Post κs a y f
    → came x e.1.1.0.now e.1.1.1.0.now ≡ came y f.1.1.0.now f.1.1.1.0.now
answer_seal_determined κs a x y e f p q = coincide p q
