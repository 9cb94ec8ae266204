-- What a test came to tells its number, since `verdict` takes each number to its own.
use Rattle.std.specs.Prelude.{ℕ, zero, suc, true, false, ◌≡◌, refl, Result, Ok, Err}
use Rattle.std.specs.Result.{is_err}
use Rattle.std.proofs.Common.{ap, sym, ◌∙◌, arith}
use Rattle.refusal.specs.Verdicts.{verdict, number}

pub number_verdict : (n : ℕ) → number (verdict n) ≡ n
unfolding verdict
number_verdict zero = refl
number_verdict (suc n) = refl

-- x is what a test of the number d came to
module _ (d : ℕ) (x : Result (Unit {0}) ℕ) (tested : x ≡ verdict d) where
  -- it passed: the number is 0
  pub passed : (u : Unit {0}) → x ≡ Ok u → 0 ≡ d
  passed u h = ap number (sym h ∙ tested) ∙ number_verdict d

  -- it refused: by that number
  pub refused_as : (r : ℕ) → x ≡ Err r → r ≡ d
  refused_as r h = ap number (sym h ∙ tested) ∙ number_verdict d

-- the same by `is_err`
err_some : (d : ℕ) → is_err (verdict d) ≡ true → d ≡ 0 → ⊥
unfolding verdict
err_some zero h z = let e : ◌≡◌ {A = ℕ} 0 1 = cc in omega (arith, e)
err_some (suc d) h z = omega (arith, z)

err_none : (d : ℕ) → is_err (verdict d) ≡ false → d ≡ 0
unfolding verdict
err_none zero h = refl
err_none (suc d) h = let e : ◌≡◌ {A = ℕ} 0 1 = cc in absurd (omega (arith, e))

module _ (d : ℕ) (x : Result (Unit {0}) ℕ) (tested : x ≡ verdict d) where
  pub is_err_some : is_err x ≡ true → d ≡ 0 → ⊥
  is_err_some h = err_some d (sym (ap is_err tested) ∙ h)

  pub is_err_none : is_err x ≡ false → d ≡ 0
  is_err_none h = err_none d (sym (ap is_err tested) ∙ h)

-- a refusal's number is not 0
abbrev refused : Result (Unit {0}) ℕ → ℕ
refused (Ok u) = 0
refused (Err n) = 1

no_zero : (d r : ℕ) → Err r ≡ verdict d → r ≡ 0 → ⊥
unfolding verdict
no_zero zero r h z = let e : 1 ≡ 0 = ap refused h in omega (arith, e)
no_zero (suc d) r h z = let e : r ≡ suc d = ap number h in omega (arith, e, z)

pub refused_some : (d : ℕ) (x : Result (Unit {0}) ℕ) → x ≡ verdict d → (r : ℕ) → x ≡ Err r → r ≡ 0 → ⊥
refused_some d x tested r h = no_zero d r (sym h ∙ tested)

-- and to build: what a test comes to whose number is 0, or another
pub passes : (d : ℕ) → 0 ≡ d → Ok tt ≡ verdict d
unfolding verdict
passes d h = ap verdict h

pub refuses_as : (d r : ℕ) → (r ≡ 0 → ⊥) → r ≡ d → Err r ≡ verdict d
unfolding verdict
refuses_as d zero some h = absurd (some refl)
refuses_as d (suc r) some h = ap verdict h
