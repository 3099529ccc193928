use Rattle.std.proofs.Common.{◌≡◌, ◌+◌, List, ℤ}
use Rattle.dayfile.proofs.SheetRows.{RowsSofar}
use Rattle.dayfile.proofs.sheets.sheet.Given as goal

abbrev pub invariant-loop-a : goal.invariant-loop-a
invariant-loop-a l = ((zss : List (List ℤ)) × RowsSofar l.scenarios l.count l.initial.lines.rest.now l.initial.out l.a l.lines.rest.now l.out zss) × (l.lines.number ≡ 7 + l.a)
