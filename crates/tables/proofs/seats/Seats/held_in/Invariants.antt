use Rattle.std.proofs.Common.{◌≡◌, ◌+◌, ◌≤◌}
use Rattle.terms.specs.Limits.{held_limit}
use Rattle.terms.specs.Sums.{sum_to}
use Rattle.tables.specs.Book.{seat_at}
use Rattle.tables.proofs.seats.Seats.held_in.Given as goal

abbrev pub invariant-loop-member : goal.invariant-loop-member
invariant-loop-member l = (l.sum ≡ sum_to l.member-iterator.passed (λ k. (seat_at l.self.all.now (k + 1) l.segment.number).held)) × (l.sum ≤ held_limit)
