-- The two times were compared, and the place goes by that.
use mathlib.Core.Path.{sym, ap₂, ◌∙◌}
use Rattle.times.specs.Times.{before}
use Rattle.entries.proofs.Oldest.{older_later, older_first}
use borrow.Author.Rules.{rules}
use Rattle.entries.proofs.find.older.Goals as goal

pub returns-then-is_before : goal.returns-then-is_before
returns-then-is_before c =
    let x = c.time_at in
    let y = c.time_at-2 in
    let t = sym (c.is_before.ensures ∙ ap₂ before x.ensures y.ensures) ∙ c.if-is_before.true in
    (sym (older_later c.args.entries.now c.args.k c.args.best c.args.i t), search rules)

pub returns-else-is_before : goal.returns-else-is_before
returns-else-is_before c =
    let x = c.time_at in
    let y = c.time_at-2 in
    let t = sym (c.is_before.ensures ∙ ap₂ before x.ensures y.ensures) ∙ c.if-is_before.false in
    (sym (older_first c.args.entries.now c.args.k c.args.best c.args.i t), search rules)
