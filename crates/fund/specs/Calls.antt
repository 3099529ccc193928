-- The calls on the fund book: what each wants, in order, and what it leaves.
use Rattle.std.specs.Prelude.{◌≡◌, ℕ, ◌+◌, ◌-◌, ◌<◌, ◌≤◌, true, List, [], ◌∷◌, length, replicate, is_some, MatchBool, Result, slice_set}
use Rattle.terms.specs.Classes.{class_of}
use Rattle.terms.specs.Limits.{all_pledges, all_seats, amount_limit, held_limit, minimum_limit, most_days}
use Rattle.terms.specs.Refusing.{Judged, Wants}
use Rattle.terms.specs.declared.refusals.Refusal.{Refusal}
use Rattle.terms.specs.declared.refusals.Refusal.TheVariants as refusals
use Rattle.figures.specs.declared.kinds.Numbers.{Numbers}
use Rattle.tables.specs.Book.{Alike, Book, IsAmount, IsMember, IsSegment, held_in, no_pledges, no_seat, place, seat_at, shares}
use Rattle.tables.specs.declared.records.Pledges.{Pledges}
use Rattle.tables.specs.declared.records.Seat.{Seat}

-- the seat of member m in segment s becomes x
abbrev pub put : List Seat → ℕ → ℕ → Seat → List Seat
put t m s x = slice_set t (place m s) x

abbrev pub Has : List Seat → ℕ → ℕ → Type 0
Has t m s = 1 ≤ (seat_at t m s).class

-- MAKING: every record zeros
abbrev pub Make : List Seat → List Pledges → Result (Unit {0}) Refusal → List Seat → List Pledges → Type 0
Make t p r t' p' =
    Judged (((length t ≡ all_seats) × (length p ≡ all_pledges), refusals.NoBook) ∷ []) r
    (λ _. (t' ≡ replicate (length t) no_seat) × (p' ≡ replicate (length p) no_pledges))
    ((t' ≡ t) × (p' ≡ p))

-- ADMISSION
-- the minimum is as a book has it for this class
abbrev pub MinimumFits : ℕ → ℕ → Type 0
MinimumFits class minimum = MatchBool (shares class) ((1 ≤ minimum) × (minimum ≤ minimum_limit)) (minimum ≡ 0)

-- at least the minimum is paid, and nothing for an exempt class
abbrev pub PaidFits : ℕ → ℕ → ℕ → Type 0
PaidFits class minimum paid = MatchBool (shares class) ((minimum ≤ paid) × (paid ≤ amount_limit)) (paid ≡ 0)

abbrev pub admission_wants : List Seat → List Pledges → ℕ → ℕ → ℕ → ℕ → ℕ → Wants
admission_wants t p m s class minimum paid =
    (Book t p, refusals.NoBook)
    ∷ (IsMember m, refusals.Member)
    ∷ (IsSegment s, refusals.Segment)
    ∷ ((seat_at t m s).class ≡ 0, refusals.SeatTaken)
    ∷ ((is_some (class_of class) ≡ true) × Alike t m class, refusals.WrongClass)
    ∷ (MinimumFits class minimum, refusals.Minimum)
    ∷ (PaidFits class minimum paid, refusals.Amount)
    ∷ (held_in t s + paid ≤ held_limit, refusals.Ceiling)
    ∷ []

abbrev pub admitted : ℕ → ℕ → ℕ → Seat
admitted class minimum paid = record { class = class; minimum = minimum; held = paid; asked = minimum; sum = 0; days = 0; last_day = 0; last_figure = 0 }

abbrev pub Admit : List Seat → List Pledges → ℕ → ℕ → ℕ → ℕ → ℕ → Result (Unit {0}) Refusal → List Seat → Type 0
Admit t p m s class minimum paid r t' = Judged (admission_wants t p m s class minimum paid) r (λ _. t' ≡ put t m s (admitted class minimum paid)) (t' ≡ t)

-- BOOKING, of a figure by its numbers alone
abbrev pub booking_wants : List Seat → List Pledges → Numbers → Wants
booking_wants t p f =
    (Book t p, refusals.NoBook)
    ∷ (Has t f.member f.segment, refusals.NoSeat)
    ∷ ((seat_at t f.member f.segment).last_day < f.day, refusals.PastDay)
    ∷ ((seat_at t f.member f.segment).days < most_days, refusals.DaysFull)
    ∷ []

abbrev pub booked : Numbers → Seat → Seat
booked f x = record { class = x.class; minimum = x.minimum; held = x.held; asked = x.asked; sum = x.sum + f.amount; days = x.days + 1; last_day = f.day; last_figure = f.amount }

abbrev pub BookFigure : List Seat → List Pledges → Numbers → Result (Unit {0}) Refusal → List Seat → Type 0
BookFigure t p f r t' = Judged (booking_wants t p f) r (λ _. t' ≡ put t f.member f.segment (booked f (seat_at t f.member f.segment))) (t' ≡ t)

-- PAYMENT
abbrev pub payment_wants : List Seat → List Pledges → ℕ → ℕ → ℕ → Wants
payment_wants t p m s amount =
    (Book t p, refusals.NoBook)
    ∷ (IsMember m, refusals.Member)
    ∷ (IsSegment s, refusals.Segment)
    ∷ (Has t m s, refusals.NoSeat)
    ∷ (shares (seat_at t m s).class ≡ true, refusals.Exempt)
    ∷ (IsAmount amount, refusals.Amount)
    ∷ (held_in t s + amount ≤ held_limit, refusals.Ceiling)
    ∷ []

abbrev pub holding : ℕ → Seat → Seat
holding held x = record { class = x.class; minimum = x.minimum; held = held; asked = x.asked; sum = x.sum; days = x.days; last_day = x.last_day; last_figure = x.last_figure }

abbrev pub Pay : List Seat → List Pledges → ℕ → ℕ → ℕ → Result (Unit {0}) Refusal → List Seat → Type 0
Pay t p m s amount r t' = Judged (payment_wants t p m s amount) r (λ _. t' ≡ put t m s (holding ((seat_at t m s).held + amount) (seat_at t m s))) (t' ≡ t)

-- WITHDRAWAL: no less than asked stays
abbrev pub withdrawal_wants : List Seat → List Pledges → ℕ → ℕ → ℕ → Wants
withdrawal_wants t p m s amount =
    (Book t p, refusals.NoBook)
    ∷ (IsMember m, refusals.Member)
    ∷ (IsSegment s, refusals.Segment)
    ∷ (Has t m s, refusals.NoSeat)
    ∷ (IsAmount amount, refusals.Amount)
    ∷ ((seat_at t m s).asked + amount ≤ (seat_at t m s).held, refusals.TooLittleLeft)
    ∷ []

abbrev pub Withdraw : List Seat → List Pledges → ℕ → ℕ → ℕ → Result (Unit {0}) Refusal → List Seat → Type 0
Withdraw t p m s amount r t' = Judged (withdrawal_wants t p m s amount) r (λ _. t' ≡ put t m s (holding ((seat_at t m s).held - amount) (seat_at t m s))) (t' ≡ t)

-- DEPARTURE: what was held is answered, and the seat is empty
abbrev pub departure_wants : List Seat → List Pledges → ℕ → ℕ → Wants
departure_wants t p m s =
    (Book t p, refusals.NoBook)
    ∷ (IsMember m, refusals.Member)
    ∷ (IsSegment s, refusals.Segment)
    ∷ (Has t m s, refusals.NoSeat)
    ∷ ((seat_at t m s).asked ≤ (seat_at t m s).held, refusals.Short)
    ∷ []

abbrev pub Depart : List Seat → List Pledges → ℕ → ℕ → Result ℕ Refusal → List Seat → Type 0
Depart t p m s r t' = Judged (departure_wants t p m s) r (λ held. (held ≡ (seat_at t m s).held) × (t' ≡ put t m s no_seat)) (t' ≡ t)
