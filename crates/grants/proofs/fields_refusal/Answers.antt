-- Only the fields of a yes are looked at, and they refuse where the list does not fit.
use native.Mathlib.Omega.{arith}
use Rattle.refusal.proofs.Laws.{passes, refuses_as}
use Rattle.grants.proofs.Tests.{fields_none, fields_refused, fields_pass}
use Rattle.grants.proofs.fields_refusal.Goals as goal

pub returns-then-not-given : goal.returns-then-not-given
returns-then-not-given c =
    let a = c.args in
    passes _ (fields_none a.given a.list.now c.if-not-given.true)

pub returns-then-is_unfit : goal.returns-then-is_unfit
returns-then-is_unfit c =
    let a = c.args in
    refuses_as _ 18 (λ e. omega arith) (fields_refused a.given a.list.now c.if-not-given.false _ c.is_unfit.ensures c.if-is_unfit.true)

pub returns : goal.returns
returns c =
    let a = c.args in
    passes _ (fields_pass a.given a.list.now c.if-not-given.false _ c.is_unfit.ensures c.if-is_unfit.false)
