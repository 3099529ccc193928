use Rattle.std.proofs.Common.{◌≡◌, ℕ, ◌<◌, ◌≤◌, map, length, get_or}
use Rattle.terms.specs.Limits.{figure_limit, minimum_limit}
use Rattle.strike.specs.Members.{sharers_to}
use Rattle.strike.specs.Strike.{members_in}
use Rattle.strike.proofs.sharing.StruckSegment.gather.Given as goal

abbrev pub invariant-loop-member : goal.invariant-loop-member
invariant-loop-member l =
    let x = members_in l.self.tables.seats.all.now l.self.segment.number in
    let n = l.member-iterator.passed in
    (l.means.items ≡ map x.mean (sharers_to n x.shares))
    × (l.minimums.items ≡ map x.minimum (sharers_to n x.shares))
    × ((k : ℕ) → k < length l.means.items → get_or l.means.items k 0 ≤ figure_limit)
    × ((k : ℕ) → k < length l.minimums.items → get_or l.minimums.items k 0 ≤ minimum_limit)
