use Rattle.std.proofs.Common.{ℕ, ◌≤◌, true}
use Rattle.tables.specs.Book.{seat_at}
use Rattle.tables.proofs.seats.Seats.each_taken.Given as goal

abbrev pub invariant-loop-segment : goal.invariant-loop-segment
invariant-loop-segment g l = (s : ℕ) → 1 ≤ s → s ≤ l.segment-iterator.passed → 1 ≤ (seat_at l.self.all.now l.member.number s).class → g.F.Fn.post l.test (seat_at l.self.all.now l.member.number s, tt) true
