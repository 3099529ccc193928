use Rattle.std.proofs.Common.{arith}
use Rattle.daytext.proofs.Numerals.{power_small}
use Rattle.daytext.proofs.numbers.digits_value.Goals as goal

pub overflow_mul-n : goal.overflow_mul-n
overflow_mul-n c = omega (arith, power_small c.loop-b.n c.loop-b.b-index c.loop-b.invariant.1 (omega arith))

pub overflow_add-n : goal.overflow_add-n
overflow_add-n c = omega (arith, power_small c.loop-b.n c.loop-b.b-index c.loop-b.invariant.1 (omega arith))

pub returns-clause-short : goal.returns-clause-short
returns-clause-short c = power_small c.loop-b.n c.loop-b.b-index c.loop-b.invariant.1 (omega arith)
