use Rattle.std.proofs.Common.{ℕ, ◌≤◌}
use Rattle.tables.specs.Book.{OneClass}
use Rattle.tables.proofs.seats.Seats.all_one_class.Given as goal

abbrev pub invariant-loop-member : goal.invariant-loop-member
invariant-loop-member l = (m : ℕ) → 1 ≤ m → m ≤ l.member-iterator.passed → OneClass l.self.all.now m
