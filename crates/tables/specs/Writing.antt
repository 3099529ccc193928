-- A segment whose seats are written anew, and the mean of a seat.
use Rattle.std.specs.Prelude.{ℕ, zero, suc, List, slice_set}
use Rattle.terms.specs.Limits.{last_member}
use Rattle.terms.specs.Rounding.{up}
use Rattle.tables.specs.Book.{place}
use Rattle.tables.specs.declared.records.Seat.{Seat}

-- the seats of members 1 to n in segment s become what `seat` says of each; shut, since at 64 it would open 64 times
unfoldable pub written_to : ℕ → List Seat → ℕ → (ℕ → Seat) → List Seat
written_to zero t s seat = t
written_to (suc n) t s seat = slice_set (written_to n t s seat) (place (suc n) s) (seat (suc n))

-- the seats of every member in segment s
abbrev pub written : List Seat → ℕ → (ℕ → Seat) → List Seat
written t s seat = written_to last_member t s seat

-- sum / days, rounded up, and 0 without figures
abbrev pub mean_of : Seat → ℕ
mean_of x = up x.sum x.days
