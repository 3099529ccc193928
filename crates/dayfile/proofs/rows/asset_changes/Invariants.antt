use Rattle.std.proofs.Common.{List, ℕ, ℤ}
use Rattle.std.proofs.lemmas.Iterator.{YieldsList}
use Rattle.dayfile.proofs.ChangeRows.{RowSofar}
use Rattle.dayfile.proofs.rows.asset_changes.Given as goal

-- the fields that are left, and the changes that were read
abbrev pub invariant-loop-field : goal.invariant-loop-field
invariant-loop-field l = (left : List (List ℕ)) × (zs : List ℤ) × YieldsList (goal.iterator-loop-field).next_gives (λ f. f.now) l.field-iterator left × RowSofar l.text l.initial.row left l.row l.count l.ranged zs
