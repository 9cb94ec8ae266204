-- Each way out is one of the answers of the definition.
use Rattle.std.specs.Prelude.{Ok}
use mathlib.Core.Path.{sym, ap, ◌∙◌}
use native.Mathlib.Omega.{arith}
use Rattle.prefix.proofs.Wire.{reads_number, reads_too_long, reads_short}
use Rattle.prefix.proofs.read_sequence.Goals as goal

pub returns-then-len-gt8 : goal.returns-then-len-gt8
returns-then-len-gt8 c =
    let a = c.args in
    sym (reads_too_long a.source.now a.at a.len c.if-len-gt8.true)

pub returns-then-at-source : goal.returns-then-at-source
returns-then-at-source c =
    let a = c.args in
    sym (reads_short a.source.now a.at a.len c.if-len-gt8.false (omega arith))

pub returns-then-source-at : goal.returns-then-source-at
returns-then-source-at c =
    let a = c.args in
    sym (reads_short a.source.now a.at a.len c.if-len-gt8.false (omega arith))

pub returns : goal.returns
returns c =
    let a = c.args in
    ap Ok c.sequence_of.ensures ∙ sym (reads_number a.source.now a.at a.len c.if-len-gt8.false (omega arith))
