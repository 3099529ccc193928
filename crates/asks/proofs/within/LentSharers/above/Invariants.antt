use Rattle.std.proofs.Common.{◌≡◌, ◌*◌, ◌≤◌, length, get_or}
use Rattle.terms.specs.Limits.{figure_limit}
use Rattle.terms.specs.Sums.{sum_to}
use Rattle.sizing.specs.Meant.{means_of}
use Rattle.asks.specs.Steps.{above_of, quota_of}
use Rattle.asks.proofs.within.LentSharers.above.Given as goal

abbrev pub invariant-loop-mean : goal.invariant-loop-mean
invariant-loop-mean l = (l.sum ≡ sum_to (length l.yielded) (λ k. above_of (quota_of l.quotas.size l.quotas.total (get_or (means_of l.self.means.now) k 0)) (get_or l.self.minimums.now k 0))) × (l.sum ≤ length l.yielded * figure_limit)
