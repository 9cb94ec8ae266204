-- Each number is a case of the definition.
use mathlib.Core.Path.{◌∙◌}
use borrow.Author.Tests.{ne_eqb}
use native.Mathlib.Omega.{arith}
use Rattle.serialize.specs.Choice.{pick}
use Rattle.calls.specs.Packets.{field_of}
use Rattle.calls.proofs.packets.field_of.Goals as goal

pub returns-in-0 : goal.returns-in-0
unfolding field_of pick
returns-in-0 c = c.version_info.ensures ∙ simp c.in-0.is

pub returns-in-1 : goal.returns-in-1
unfolding field_of pick
returns-in-1 c = c.xnonce.ensures ∙ simp c.in-1.is

pub returns-in-2 : goal.returns-in-2
unfolding field_of pick
returns-in-2 c = c.private_data.ensures ∙ simp c.in-2.is

pub returns-in-3 : goal.returns-in-3
unfolding field_of pick
returns-in-3 c = c.token_data.ensures ∙ simp c.in-3.is

pub returns-in_default : goal.returns-in_default
unfolding field_of pick
returns-in_default c =
    let v = c.args.which in
    c.payload.ensures ∙ simp (ne_eqb v 0 (omega arith), ne_eqb v 1 (omega arith), ne_eqb v 2 (omega arith), ne_eqb v 3 (omega arith))
