-- An accepted call leaves a book, and a refused one leaves the book that was there.
use Rattle.std.specs.Prelude.{ℕ, ◌≤◌, List, Ok, Result}
use Rattle.terms.specs.Limits.{figure_limit, day_limit}
use Rattle.terms.specs.declared.refusals.Refusal.{Refusal}
use Rattle.figures.specs.declared.kinds.Numbers.{Numbers}
use Rattle.tables.specs.Book.{Book, IsMember, IsSegment}
use Rattle.tables.specs.declared.records.Pledges.{Pledges}
use Rattle.tables.specs.declared.records.Seat.{Seat}
use Rattle.fund.specs.Calls.{Admit, BookFigure, Depart, Make, Pay, Withdraw}

-- the numbers that a figure has
pub record InRange (f : Numbers) : Type 0 where
  pub member : IsMember f.member
  pub segment : IsSegment f.segment
  pub day : f.day ≤ day_limit
  pub amount : f.amount ≤ figure_limit

pub record BooksStay : Type 0 where
  pub make : (t : List Seat) (p : List Pledges) (t' : List Seat) (p' : List Pledges) → Make t p (Ok tt) t' p' → Book t' p'
  pub admit : (t : List Seat) (p : List Pledges) (m s class minimum paid : ℕ) (r : Result (Unit {0}) Refusal) (t' : List Seat) → Book t p → Admit t p m s class minimum paid r t' → Book t' p
  pub book : (t : List Seat) (p : List Pledges) (f : Numbers) (r : Result (Unit {0}) Refusal) (t' : List Seat) → InRange f → Book t p → BookFigure t p f r t' → Book t' p
  pub pay : (t : List Seat) (p : List Pledges) (m s amount : ℕ) (r : Result (Unit {0}) Refusal) (t' : List Seat) → Book t p → Pay t p m s amount r t' → Book t' p
  pub withdraw : (t : List Seat) (p : List Pledges) (m s amount : ℕ) (r : Result (Unit {0}) Refusal) (t' : List Seat) → Book t p → Withdraw t p m s amount r t' → Book t' p
  pub depart : (t : List Seat) (p : List Pledges) (m s : ℕ) (r : Result ℕ Refusal) (t' : List Seat) → Book t p → Depart t p m s r t' → Book t' p
