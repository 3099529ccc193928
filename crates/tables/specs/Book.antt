-- When two tables form a book.
use Rattle.std.specs.Prelude.{◌≡◌, ℕ, ◌+◌, ◌-◌, ◌*◌, ◌<◌, ◌≤◌, Bool, List, length, Some, None, MatchBool, Option, ◌==◌, slice_index_or}
use Rattle.terms.specs.Classes.{class_of, owed, owes}
use Rattle.terms.specs.Limits.{all_pledges, all_seats, amount_limit, figure_limit, held_limit, day_limit, last_member, last_segment, minimum_limit, most_days}
use Rattle.terms.specs.Sums.{sum_to}
use Rattle.terms.specs.declared.classes.Class.{Class}
use Rattle.terms.specs.declared.classes.Duty.TheVariants.{FundContribution}
use Rattle.tables.specs.declared.records.Pledges.{Pledges}
use Rattle.tables.specs.declared.records.Seat.{Seat}

-- every field 0
pub record Empty (x : Seat) : Type 0 where
  pub class : x.class ≡ 0
  pub minimum : x.minimum ≡ 0
  pub held : x.held ≡ 0
  pub asked : x.asked ≡ 0
  pub sum : x.sum ≡ 0
  pub days : x.days ≡ 0
  pub day : x.last_day ≡ 0
  pub figure : x.last_figure ≡ 0

abbrev pub no_seat : Seat
no_seat = record { class = 0; minimum = 0; held = 0; asked = 0; sum = 0; days = 0; last_day = 0; last_figure = 0 }

abbrev pub no_pledges : Pledges
no_pledges = record { individual = 0; extraordinary = 0 }

abbrev pub IsMember : ℕ → Type 0
IsMember m = (1 ≤ m) × (m ≤ last_member)

abbrev pub IsSegment : ℕ → Type 0
IsSegment s = (1 ≤ s) × (s ≤ last_segment)

-- an amount that is paid, withdrawn or pledged
abbrev pub IsAmount : ℕ → Type 0
IsAmount a = (1 ≤ a) × (a ≤ amount_limit)

-- where the seat of member m in segment s stands
abbrev pub place : ℕ → ℕ → ℕ
place m s = 5 * (m - 1) + (s - 1)

abbrev pub seat_at : List Seat → ℕ → ℕ → Seat
seat_at t m s = slice_index_or t (place m s) no_seat

-- what all seats of a segment hold
abbrev pub held_in : List Seat → ℕ → ℕ
held_in t s = sum_to last_member (λ k. (seat_at t (k + 1) s).held)

-- a seat of a class that owes the fund a contribution
pub record Sharing (x : Seat) : Type 0 where
  pub minimum : (1 ≤ x.minimum) × (x.minimum ≤ minimum_limit)
  pub asked : (x.minimum ≤ x.asked) × (x.asked ≤ amount_limit)

-- a seat of any other class
pub record Exempt (x : Seat) : Type 0 where
  pub minimum : x.minimum ≡ 0
  pub asked : x.asked ≡ 0
  pub held : x.held ≡ 0

-- the class of this number owes the fund a contribution
abbrev pub shares : ℕ → Bool
shares class = owes class FundContribution

abbrev pub KindBy : Option Class → Seat → Type 0
KindBy None x = ⊥
KindBy (Some c) x = MatchBool (owed c FundContribution) (Sharing x) (Exempt x)

-- empty, or of a known class and as that class has it
abbrev pub Kind : Seat → Type 0
Kind x = MatchBool (x.class == 0) (Empty x) (KindBy (class_of x.class) x)

pub record Ranged (x : Seat) : Type 0 where
  pub days : x.days ≤ most_days
  pub sum : x.sum ≤ x.days * figure_limit
  pub figure : x.last_figure ≤ figure_limit
  pub day : x.last_day ≤ day_limit

pub record Sound (x : Seat) : Type 0 where
  pub kind : Kind x
  pub ranged : Ranged x

pub record Pledged (p : Pledges) : Type 0 where
  pub individual : p.individual ≤ amount_limit
  pub extraordinary : p.extraordinary ≤ amount_limit

-- each seat that member m has, is of class c
abbrev pub Alike : List Seat → ℕ → ℕ → Type 0
Alike t m c = (s : ℕ) → IsSegment s → 1 ≤ (seat_at t m s).class → (seat_at t m s).class ≡ c

-- the seats of member m share one class
abbrev pub OneClass : List Seat → ℕ → Type 0
OneClass t m = (s : ℕ) → IsSegment s → 1 ≤ (seat_at t m s).class → Alike t m (seat_at t m s).class

pub record Book (t : List Seat) (p : List Pledges) : Type 0 where
  pub seats : length t ≡ all_seats
  pub pledges : length p ≡ all_pledges
  pub sound : (k : ℕ) → k < length t → Sound (slice_index_or t k no_seat)
  pub pledged : (k : ℕ) → k < length p → Pledged (slice_index_or p k no_pledges)
  pub alike : (m : ℕ) → IsMember m → OneClass t m
  pub ceiling : (s : ℕ) → IsSegment s → held_in t s ≤ held_limit
