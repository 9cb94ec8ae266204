-- The count is at most 8, so type and count fill a byte.
use native.Mathlib.Omega.{arith}
use Rattle.prefix.proofs.Fewest.{fewest_le}
use borrow.Author.Rules.{rules}
use Rattle.prefix.proofs.encode_prefix.Goals as goal

pub overflow_cast-result : goal.overflow_cast-result
overflow_cast-result c = omega (arith, fewest_le c.args.sequence (search rules))

pub overflow_mul-result : goal.overflow_mul-result
overflow_mul-result c = omega (arith, fewest_le c.args.sequence (search rules))

pub overflow_add-result : goal.overflow_add-result
overflow_add-result c = omega (arith, fewest_le c.args.sequence (search rules))
