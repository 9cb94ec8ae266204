-- What is left of the line, word after word.
use Rattle.std.proofs.Common.{◌≡◌, ◌-◌, ◌≤◌, length, drop}
use Rattle.tokens.specs.Text.{past}
use Rattle.tokens.proofs.word_start.Given as goal

abbrev pub invariant-loop : goal.invariant-loop
invariant-loop l = (l.counter ≤ l.which) × (drop l.at l.line ≡ past l.counter l.line) × (l.at ≤ length l.line)

abbrev pub decreases-loop : goal.decreases-loop
decreases-loop l = l.which - l.counter
