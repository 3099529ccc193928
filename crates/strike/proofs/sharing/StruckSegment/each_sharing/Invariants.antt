use Rattle.std.proofs.Common.{◌≡◌, ℕ, ◌≤◌, true}
use Rattle.tables.specs.Book.{seat_at, shares}
use Rattle.strike.proofs.sharing.StruckSegment.each_sharing.Given as goal

abbrev pub invariant-loop-member : goal.invariant-loop-member
invariant-loop-member g l = (m : ℕ) → 1 ≤ m → m ≤ l.member-iterator.passed → shares (seat_at l.self.tables.seats.all.now m l.self.segment.number).class ≡ true → g.F.Fn.post l.test (seat_at l.self.tables.seats.all.now m l.self.segment.number, tt) true
