-- A body is whole, or short.
use mathlib.Core.Path.{sym, ap, ◌∙◌}
use native.Mathlib.Omega.{arith}
use Rattle.decode.specs.Decodes.{by_body, read_opened}
use Rattle.decode.proofs.reading.read_opened.Goals as goal

pub read-requires : goal.read-requires
read-requires c = omega (arith, c.requires)

pub returns-in-Ok : goal.returns-in-Ok
unfolding read_opened
returns-in-Ok c =
    let s = c.args in
    ap (by_body s.sequence s.start s.end) (sym c.in-Ok.is ∙ c.read.ensures)

pub returns-in-Err : goal.returns-in-Err
unfolding read_opened
returns-in-Err c =
    let s = c.args in
    ap (by_body s.sequence s.start s.end) (sym c.in-Err.is ∙ c.read.ensures)
