-- Any two outcomes that satisfy a promise coincide (document 01, "What every promise pins down"): each promise is an equation for the
-- result with everything that the call can write. `Post` is the function's `ensures`, of its arguments a, its result x and its slices at
-- exit e.
use mathlib.Core.Path.{◌≡◌}
use Rattle.serialize.proofs.Determined.{coincide}
use Rattle.turns.specs.Outcomes.{came}
use Rattle.turns.specs.Packets.{prepared}
use Rattle.grants.specs.Tokens.{met, admitted}
use Rattle.grants.specs.Grants.{granted}
use Rattle.grants.proofs.challenges.challenge.Reads as challenge
use Rattle.grants.proofs.tokens.consider.Reads as consider
use Rattle.grants.proofs.answer_token.Reads as answer-token

pub challenge_determined : (κs : _) (a : _) (x y : _) (e f : _) → challenge.Post κs a x e → challenge.Post κs a y f
    → prepared x e.1.1.1.1.1.0.now e.1.1.1.1.1.1.0.now ≡ prepared y f.1.1.1.1.1.0.now f.1.1.1.1.1.1.0.now
challenge_determined κs a x y e f p q = coincide p q

pub consider_determined : (κs : _) (a : _) (x y : _) (e f : _) → consider.Post κs a x e → consider.Post κs a y f
    → admitted
    (met x e.1.1.1.1.1.1.1.1.0.now e.1.1.1.1.1.1.1.1.1.1.0.now e.1.1.1.1.1.1.1.1.1.1.1.0.now)
    e.1.1.1.1.1.1.1.1.1.0.now
    ≡ admitted
    (met y f.1.1.1.1.1.1.1.1.0.now f.1.1.1.1.1.1.1.1.1.1.0.now f.1.1.1.1.1.1.1.1.1.1.1.0.now)
    f.1.1.1.1.1.1.1.1.1.0.now
consider_determined κs a x y e f p q = coincide p q

pub answer_token_determined : (κs : _) (a : _) (x y : _) (e f : _) → answer-token.Post κs a x e → answer-token.Post κs a y f
    → granted (came x a.1.1.1.1.0.now e.1.1.1.1.1.0.now) e.1.1.1.1.1.1.0.now e.1.1.1.1.1.1.1.1.0.now e.1.1.1.1.1.1.1.1.1.0.now
    ≡ granted (came y a.1.1.1.1.0.now f.1.1.1.1.1.0.now) f.1.1.1.1.1.1.0.now f.1.1.1.1.1.1.1.1.0.now f.1.1.1.1.1.1.1.1.1.0.now
answer_token_determined κs a x y e f p q = coincide p q
