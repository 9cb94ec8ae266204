-- What stands left of the index has no sign.
use Rattle.std.proofs.Common.{◌≡◌, ◌+◌, ◌-◌, ◌≤◌, length, drop}
use Rattle.tokens.specs.Text.{after_sign_of}
use Rattle.tokens.proofs.after_sign.Given as goal

abbrev pub invariant-loop-i : goal.invariant-loop-i
invariant-loop-i l = (l.i-end ≡ length l.line) × (l.i ≤ l.i-end) × (l.i + after_sign_of (drop l.i l.line) ≡ after_sign_of l.line)

abbrev pub decreases-loop-i : goal.decreases-loop-i
decreases-loop-i l = length l.line - l.i
