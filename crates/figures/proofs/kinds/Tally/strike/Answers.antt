use Rattle.std.proofs.Common.{arith}
use Rattle.terms.specs.Limits.{column_limit}
use Rattle.figures.proofs.Sizes.{largest_small}
use Rattle.figures.proofs.kinds.Tally.strike.Goals as goal

pub invariant_of-result : goal.invariant_of-result
invariant_of-result c = record { small = omega (arith, largest_small c.args.self.columns column_limit 0 (omega arith) c.args.self.small, c.largest-most.ensures) }
