-- Each way out is a case of the definition.
use mathlib.Core.Path.{ap, ◌∙◌}
use borrow.Author.Tests.{lt-ltb, le-ltb}
use lib.ListN.{length}
use Rattle.serialize.specs.Choice.{pick}
use Rattle.prefix.specs.declared.Prefix.{Prefix}
use Rattle.bodies.specs.Kinds.{type_of}
use Rattle.decode.specs.Decodes.{type_at}
use Rattle.decode.proofs.reading.read_type.Goals as goal

pub returns-then-datagram-lt-LEAST : goal.returns-then-datagram-lt-LEAST
unfolding type_at pick
returns-then-datagram-lt-LEAST c =
    let d = c.args.datagram.now in
    simp (lt-ltb (length d) 18 c.if-datagram-lt-LEAST.true)

pub returns : goal.returns
unfolding type_at pick
returns c =
    let d = c.args.datagram.now in
    c.from_u8.ensures ∙ ap type_of (ap (λ (p : Prefix). p.kind) c.decode_prefix.ensures) ∙ simp (le-ltb (length d) 18 c.if-datagram-lt-LEAST.false)
