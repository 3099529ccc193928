use Rattle.std.proofs.Common.{◌≡◌, ◌*◌, ◌≤◌}
use Rattle.terms.specs.Limits.{figure_limit}
use Rattle.terms.specs.Sums.{sum_to}
use Rattle.sizing.specs.Meant.{means_of}
use Rattle.sizing.specs.Sizes.{counted}
use Rattle.sizing.proofs.rule.SizingRule.size.Given as goal

abbrev pub invariant-loop-place : goal.invariant-loop-place
invariant-loop-place g l = (l.sum ≡ sum_to l.place (counted (g.Self.SizingRule.marking l.self (means_of l.means)) (means_of l.means))) × (l.sum ≤ l.place * figure_limit)
