-- Any two outcomes that satisfy a promise coincide (document 01, "What every promise pins down"): each promise is an equation for
-- all that a call can change. `Post` is the function's `ensures`, of its arguments a, its result x and its slices at exit e.
use mathlib.Core.Path.{◌≡◌, sym, ◌∙◌}
use Rattle.refusal.proofs.Refusal.number.Reads as refusal-number
use Rattle.refusal.proofs.number.Reads as number

-- ---- functions that return a value and write nothing

pub refusal_number_determined : (κs : _) (a : _) (x y : _) (e f : _) → refusal-number.Post κs a x e → refusal-number.Post κs a y f → x ≡ y
refusal_number_determined κs a x y e f p q = p ∙ sym q

pub number_determined : (κs : _) (a : _) (x y : _) (e f : _) → number.Post κs a x e → number.Post κs a y f → x ≡ y
number_determined κs a x y e f p q = p ∙ sym q
