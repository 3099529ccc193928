use Rattle.std.proofs.Common.{◌≡◌}
use Rattle.tables.specs.Writing.{written_to}
use Rattle.strike.proofs.Settling.{becomes}
use Rattle.strike.proofs.striking.settle_all.Given as goal

abbrev pub invariant-loop-member : goal.invariant-loop-member
invariant-loop-member l = l.seats ≡ written_to l.member-iterator.passed l.initial.seats l.segment.number (becomes l.initial.seats l.segment.number l.rows)
