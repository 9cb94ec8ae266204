-- What is left decides.
use Rattle.std.proofs.Common.{◌≡◌, drop}
use Rattle.tokens.specs.Text.{all_below}
use Rattle.tokens.proofs.are_digits.Given as goal

abbrev pub invariant-loop-c : goal.invariant-loop-c
invariant-loop-c g l = all_below g.row.BASE (drop l.c-index l.word) ≡ all_below g.row.BASE l.word
