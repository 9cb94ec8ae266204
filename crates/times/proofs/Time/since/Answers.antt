-- Where then is not later, its seconds lead by no more than the nanoseconds hold, so every sum fits and the difference is exact.
use mathlib.Core.Path.{◌∙◌}
use native.Mathlib.Omega.{arith}
use Rattle.times.proofs.Sums.{apart_from, later, not_later, since_zero, since_settled}
use Rattle.times.proofs.Time.since.Goals as goal

pub returns-then-is_before : goal.returns-then-is_before
returns-then-is_before c =
    let a = c.args in
    c.zero.ensures ∙ since_zero a.self a.then (later a.self a.then c.is_before.ensures c.if-is_before.true)

pub overflow_add-take : goal.overflow_add-take
overflow_add-take c =
    let a = c.args in
    let h = not_later a.self a.then c.is_before.ensures c.if-is_before.false in
    omega arith

pub overflow_add-take-2 : goal.overflow_add-take-2
overflow_add-take-2 c =
    let a = c.args in
    let h = not_later a.self a.then c.is_before.ensures c.if-is_before.false in
    let k = apart_from a.self a.then c.from-one.result c.from-one.ensures in
    omega arith

pub overflow_mul-one : goal.overflow_mul-one
overflow_mul-one c =
    let a = c.args in
    let k = apart_from a.self a.then c.from-one.result c.from-one.ensures in
    omega arith

pub overflow_add-nanos : goal.overflow_add-nanos
overflow_add-nanos c =
    let a = c.args in
    let k = apart_from a.self a.then c.from-one.result c.from-one.ensures in
    omega arith

pub overflow_sub-nanos : goal.overflow_sub-nanos
overflow_sub-nanos c =
    let a = c.args in
    let k = apart_from a.self a.then c.from-one.result c.from-one.ensures in
    k.enough

pub settle-requires : goal.settle-requires
settle-requires c =
    let a = c.args in
    let h = not_later a.self a.then c.is_before.ensures c.if-is_before.false in
    let k = apart_from a.self a.then c.from-one.result c.from-one.ensures in
    omega arith

pub returns : goal.returns
returns c =
    let a = c.args in
    let h = not_later a.self a.then c.is_before.ensures c.if-is_before.false in
    let k = apart_from a.self a.then c.from-one.result c.from-one.ensures in
    c.settle.ensures ∙
    since_settled a.self a.then c.saturating_sub-up.result c.saturating_sub.result c.from-one.result h c.saturating_sub-up.ensures c.saturating_sub.ensures k
