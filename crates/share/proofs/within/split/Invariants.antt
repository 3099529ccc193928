use Rattle.std.proofs.Common.{◌≡◌, ℕ, ◌+◌, ◌-◌, ◌<◌, get_or, take, sum_by}
use Rattle.share.specs.Split.{cut}
use Rattle.share.proofs.within.split.Given as goal

abbrev pub invariant-loop-i : goal.invariant-loop-i
invariant-loop-i g l =
    let sum_before = λ (k : ℕ). sum_by g.T.Weighted.weighs (take k l.items) in
    (l.sum ≡ sum_before l.i)
    × (l.before ≡ cut l.total l.whole l.sum)
    × ((k : ℕ) → k < l.i → get_or l.parts k 0 ≡ cut l.total l.whole (sum_before (k + 1)) - cut l.total l.whole (sum_before k))
