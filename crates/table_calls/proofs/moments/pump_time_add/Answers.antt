-- Each arm is a case of the definition.
use Rattle.std.specs.Prelude.{ℕ, Result}
use mathlib.Core.Path.{sym, ap, ◌∙◌}
use Rattle.times.specs.declared.Time.{Time}
use Rattle.table_calls.specs.Calls.{told, clock_laid}
use Rattle.table_calls.proofs.moments.pump_time_add.Goals as goal

pub returns-in-Ok : goal.returns-in-Ok
unfolding clock_laid
returns-in-Ok c =
    let a = c.args in
    sym (ap (λ (x : Result Time ℕ). clock_laid x a.out.now) (sym c.add.ensures ∙ c.in-Ok.is))

pub returns-in-Err : goal.returns-in-Err
unfolding clock_laid
returns-in-Err c =
    let a = c.args in
    ap (λ (n : ℕ). told n a.out.now) c.number.ensures
    ∙ sym (ap (λ (x : Result Time ℕ). clock_laid x a.out.now) (sym c.add.ensures ∙ c.in-Err.is))
