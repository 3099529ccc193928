use Rattle.std.proofs.Common.{length, arith}
use native.Mathlib.Nat.{div-add-mod'}
use Rattle.figures.proofs.checks.Sheet.read.Goals as goal

pub invariant_of-result-clause-long : goal.invariant_of-result-clause-long
invariant_of-result-clause-long c = omega (arith, div-add-mod' (length c.args.changes.now) c.args.scenarios)
