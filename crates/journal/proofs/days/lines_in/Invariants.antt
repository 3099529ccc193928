use Rattle.std.proofs.Common.{◌≡◌, ◌≤◌, eqb, take}
use Rattle.std.specs.List.{count_by}
use Rattle.journal.proofs.days.lines_in.Given as goal

abbrev pub invariant-loop-b : goal.invariant-loop-b
invariant-loop-b l = (l.ended ≡ count_by (λ b. eqb b 10) (take l.b-index l.bytes)) × (l.ended ≤ l.b-index)
