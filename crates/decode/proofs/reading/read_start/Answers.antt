-- The one test of the definition.
use mathlib.Core.Path.{ap}
use native.Mathlib.Omega.{arith}
use borrow.Author.Tests.{lt-ltb, le-ltb}
use Rattle.serialize.specs.Choice.{pick}
use Rattle.prefix.specs.declared.Prefix.{Prefix}
use Rattle.decode.specs.Decodes.{count_of, start_at}
use Rattle.decode.proofs.reading.read_start.Goals as goal

pub returns-then-count-gt8 : goal.returns-then-count-gt8
unfolding start_at pick
returns-then-count-gt8 c =
    let d = c.args.datagram.now in
    simp (lt-ltb 8 (count_of d) (omega (arith, ap (λ (p : Prefix). p.count) c.decode_prefix-count.ensures)))

pub sequence_of-requires : goal.sequence_of-requires
sequence_of-requires c = (omega arith, omega (arith, c.requires))

pub overflow_add-result : goal.overflow_add-result
overflow_add-result c = record { fits = omega arith }

pub returns : goal.returns
unfolding start_at pick
returns c =
    let d = c.args.datagram.now in
    let e = ap (λ (p : Prefix). p.count) c.decode_prefix-count.ensures in
    simp (c.sequence_of.ensures, e, le-ltb 8 (count_of d) (omega (arith, e, c.if-count-gt8.false)))
