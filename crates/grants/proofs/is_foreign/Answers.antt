-- Only a secure server looks at the list.
use mathlib.Core.Path.{◌∙◌}
use Rattle.grants.proofs.Tests.{foreign_never, foreign_told}
use Rattle.grants.proofs.is_foreign.Goals as goal

pub returns-then-set : goal.returns-then-set
returns-then-set c =
    let a = c.args in
    foreign_told a.set a.list.now a.public.now c.if-set.true _ c.any_ours.ensures

pub returns-else-set : goal.returns-else-set
returns-else-set c =
    let a = c.args in
    c.if-set.false ∙ foreign_never a.set a.list.now a.public.now c.if-set.false
