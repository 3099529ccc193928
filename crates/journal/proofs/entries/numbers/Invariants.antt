use Rattle.std.proofs.Common.{◌≡◌, ◌-◌, take, length}
use Rattle.daytext.specs.Text.{fields_of}
use Rattle.daytext.specs.Fields.{left}
use Rattle.journal.specs.Entries.{numbers_of}
use Rattle.journal.proofs.Fields.{read_before}
use Rattle.journal.proofs.entries.numbers.Given as goal

abbrev pub invariant-loop-number : goal.invariant-loop-number
invariant-loop-number g l =
    (numbers_of g.row.N (fields_of l.text) ≡ read_before (take l.number-index l.number-items) (numbers_of (g.row.N - l.number-index) (left l.fields)))
    × (length l.number-items ≡ g.row.N)
