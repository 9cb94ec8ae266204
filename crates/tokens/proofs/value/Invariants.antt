-- The number so far, and what is left of the digits.
use Rattle.std.proofs.Common.{◌≡◌, drop}
use Rattle.tokens.specs.Text.{value_from}
use Rattle.tokens.proofs.value.Given as goal

abbrev pub invariant-loop-c : goal.invariant-loop-c
invariant-loop-c g l = value_from g.row.BASE l.v (drop l.c-index l.word) ≡ value_from g.row.BASE 0 l.word
