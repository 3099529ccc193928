use Rattle.std.proofs.Common.{ℕ, ◌≤◌}
use Rattle.terms.specs.Limits.{held_limit}
use Rattle.tables.specs.Book.{held_in}
use Rattle.tables.proofs.seats.Seats.all_within.Given as goal

abbrev pub invariant-loop-segment : goal.invariant-loop-segment
invariant-loop-segment l = (s : ℕ) → 1 ≤ s → s ≤ l.segment-iterator.passed → held_in l.self.all.now s ≤ held_limit
