-- Other bytes are no match; of a place with these the mark decides.
use mathlib.Core.Path.{sym, ◌∙◌}
use Rattle.entries.proofs.Marks.{other_bytes, same_bytes_match}
use Rattle.entries.proofs.body.is_match.Goals as goal

pub returns-then-same_bytes : goal.returns-then-same_bytes
returns-then-same_bytes c =
    let a = c.args in
    c.is_used.ensures ∙ same_bytes_match a.entries.now a.k a.mac.now a.i (sym c.same_bytes.ensures ∙ c.if-same_bytes.true)

pub returns-else-same_bytes : goal.returns-else-same_bytes
returns-else-same_bytes c =
    let a = c.args in
    c.if-same_bytes.false ∙ other_bytes a.entries.now a.k a.mac.now a.i (sym c.same_bytes.ensures ∙ c.if-same_bytes.false)
