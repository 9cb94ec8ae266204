-- The record in words, put together from what each step lays: each equation is carried into the place of the next.
use mathlib.Core.Path.{◌≡◌, ap, ◌∙◌}
use mathlib.Core.Bool.{Bool, true, false}
use mathlib.Core.List.{List, [], ◌∷◌}
use Prim.Native.Nat.{ℕ}
use mir.Val.{bool_byte}
use Rattle.serialize.specs.Choice.{pick}
use Rattle.serialize.specs.Runs.{splice}
use Rattle.serialize.specs.Le.{words}
use Rattle.records.specs.Records.{bit}
use Rattle.server.specs.declared.NetcodeServer.{NetcodeServer}
use Rattle.netcode.specs.Laid.{record_words, whole_words}

pub whole : (s : NetcodeServer) (w a b d e : List ℕ) (secure : ℕ) → secure ≡ bit s.set.secure
    → a ≡ splice w 0 (s.set.slots ∷ s.set.pending ∷ s.set.entries ∷ s.set.addresses ∷ secure ∷ s.set.protocol_id ∷ [])
    → b ≡ splice a 14 (words 4 s.set.connect_key) → d ≡ splice b 18 (words 4 s.set.challenge_key) → e ≡ record_words d s → e ≡ whole_words w s
unfolding whole_words
whole s w a b d e secure is standing connect challenge moving =
    moving
    ∙ ap (λ (x : List ℕ). record_words x s)
    (challenge
    ∙ ap (λ (x : List ℕ). splice x 18 (words 4 s.set.challenge_key))
    (connect
    ∙ ap (λ (x : List ℕ). splice x 14 (words 4 s.set.connect_key))
    (standing
    ∙ ap (λ (k : ℕ). splice w 0 (s.set.slots ∷ s.set.pending ∷ s.set.entries ∷ s.set.addresses ∷ k ∷ s.set.protocol_id ∷ [])) is)))

-- a yes is laid as 1, as it is in a table
pub laid_bit : (b : Bool) (x : ℕ) → x ≡ bool_byte b → x ≡ bit b
unfolding bit pick
laid_bit true x e = e
laid_bit false x e = e
