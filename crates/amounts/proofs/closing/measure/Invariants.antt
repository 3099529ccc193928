use Rattle.std.proofs.Common.{◌≡◌, length, map, take}
use Rattle.terms.specs.Limits.{most_positions}
use Rattle.amounts.specs.Closing.{contrary_of}
use Rattle.amounts.proofs.closing.measure.Given as goal

abbrev pub invariant-loop-i : goal.invariant-loop-i
invariant-loop-i l = (take l.i l.sizes ≡ map (contrary_of l.quantity) (take l.i l.positions)) × (length l.sizes ≡ most_positions)
