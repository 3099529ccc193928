-- The rows in which a strike tells its asks and marks, one for each member.
use Rattle.std.specs.Prelude.{◌≡◌, ℕ, ◌-◌, false, cond, List, length, slice_index_or}
use Rattle.terms.specs.Limits.{all_members}
use Rattle.sizing.specs.Marks.{Marking}
use Rattle.tables.specs.Book.{IsMember}
use Rattle.strike.specs.declared.rows.Row.{Row}
use Rattle.strike.specs.Members.{Members, ask_of, fund_of, mark_of}

-- of a member that does not share
abbrev pub unasked : Row
unasked = record { ask = 0; marked = false }

-- the row of member m
abbrev pub row_at : List Row → ℕ → Row
row_at rows m = slice_index_or rows (m - 1) unasked

abbrev pub ask_in : List Row → ℕ → ℕ
ask_in rows m = (row_at rows m).ask

-- what a member is told: its ask and its mark, or nothing where it does not share
abbrev pub row_of : Members → Marking → ℕ → Row
row_of x marking m = cond (x.shares m) (record { ask = ask_of x marking m; marked = mark_of x marking m }) unasked

-- the answer and the rows of a strike of these members
pub record Told (x : Members) (marking : Marking) (size : ℕ) (rows : List Row) : Type 0 where
  pub fund : size ≡ fund_of x marking
  pub long : length rows ≡ all_members
  pub each : (m : ℕ) → IsMember m → row_at rows m ≡ row_of x marking m
