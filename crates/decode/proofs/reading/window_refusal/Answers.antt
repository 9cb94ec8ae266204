-- Each way out is a case of the definition.
use mathlib.Core.Path.{◌∙◌}
use Prim.Native.Nat.{◌+◌, ◌^◌}
use native.Mathlib.Omega.{arith}
use borrow.Author.Tests.{lt-leb, le-leb}
use Rattle.serialize.specs.Choice.{pick}
use Rattle.refusal.specs.Verdicts.{verdict}
use Rattle.replay_protection.specs.Ours.{width}
use Rattle.decode.specs.Decodes.{window_refusal}
use Rattle.decode.proofs.reading.window_refusal.Goals as goal

pub returns-in-Some : goal.returns-in-Some
unfolding window_refusal
returns-in-Some c = c.refusal.ensures ∙ simp c.in-Some.is

pub returns-then-sequence-gt18446744073709551359 : goal.returns-then-sequence-gt18446744073709551359
unfolding window_refusal pick verdict
returns-then-sequence-gt18446744073709551359 c =
    let s = c.args.sequence in
    simp (c.in_default.is, le-leb (2 ^ 64) (s + width) (omega arith))

pub returns : goal.returns
unfolding window_refusal pick verdict
returns c =
    let s = c.args.sequence in
    simp (c.in_default.is, lt-leb (2 ^ 64) (s + width) (omega arith))
