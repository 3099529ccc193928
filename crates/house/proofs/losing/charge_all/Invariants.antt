use Rattle.std.proofs.Common.{◌≡◌}
use Rattle.tables.specs.Book.{seat_at}
use Rattle.tables.specs.Writing.{written_to}
use Rattle.house.specs.Loss.{charged_by}
use Rattle.house.specs.Rows.{amount_in}
use Rattle.house.proofs.losing.charge_all.Given as goal

abbrev pub invariant-loop-member : goal.invariant-loop-member
invariant-loop-member l = l.seats ≡ written_to l.member-iterator.passed l.initial.seats l.segment.number (λ m. charged_by (amount_in l.charges m) (seat_at l.initial.seats m l.segment.number))
