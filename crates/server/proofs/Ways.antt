-- A test that gives a number stops what follows it, or lets it decide.
use mathlib.Core.Path.{◌≡◌, sym, ap, ◌∙◌}
use mathlib.Core.Bool.{Bool}
use Prim.Native.Nat.{ℕ}
use borrow.Author.Tests.{eq-eqb, ne_eqb}
use Rattle.serialize.specs.Choice.{pick}
use Rattle.server.specs.Ready.{before}

module _ (a b r : ℕ) (e : r ≡ a) where
  pub first_refuses : (r ≡ 0 → ⊥) → r ≡ before a b
  unfolding before pick
  first_refuses n = e ∙ sym (ap (λ (c : Bool). pick c b a) (ne_eqb a 0 (λ z. n (e ∙ z))))

  pub second_decides : r ≡ 0 → (s : ℕ) → s ≡ b → s ≡ before a b
  unfolding before pick
  second_decides z s f = f ∙ sym (ap (λ (c : Bool). pick c b a) (eq-eqb a 0 (sym e ∙ z)))
