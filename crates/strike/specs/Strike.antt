-- The strike of a segment: what it wants, in order, and what it leaves.
use Rattle.std.specs.Prelude.{◌≡◌, ℕ, ◌≤◌, true, cond, List, [], ◌∷◌, length, Result}
use Rattle.terms.specs.Limits.{all_members, fund_limit}
use Rattle.terms.specs.Refusing.{Judged, Wants}
use Rattle.terms.specs.declared.refusals.Refusal.{Refusal}
use Rattle.terms.specs.declared.refusals.Refusal.TheVariants as refusals
use Rattle.sizing.specs.Marks.{Marking}
use Rattle.tables.specs.Book.{Book, IsMember, IsSegment, seat_at, shares}
use Rattle.tables.specs.Writing.{mean_of, written}
use Rattle.tables.specs.declared.records.Pledges.{Pledges}
use Rattle.tables.specs.declared.records.Seat.{Seat}
use Rattle.strike.specs.declared.rows.Row.{Row}
use Rattle.strike.specs.Members.{Members, fund_of}
use Rattle.strike.specs.Rows.{Told, ask_in}

-- the members of a segment, as the tables have them
abbrev pub members_in : List Seat → ℕ → Members
members_in t s = record { shares = λ m. shares (seat_at t m s).class; minimum = λ m. (seat_at t m s).minimum; mean = λ m. mean_of (seat_at t m s) }

-- some member shares in the segment
abbrev pub SomeoneShares : List Seat → ℕ → Type 0
SomeoneShares t s = (m : ℕ) × (IsMember m × ((members_in t s).shares m ≡ true))

-- each seat that shares in the segment is so
abbrev pub EachSharing : List Seat → ℕ → (Seat → Type 0) → Type 0
EachSharing t s P = (m : ℕ) → IsMember m → (members_in t s).shares m ≡ true → P (seat_at t m s)

-- a seat holds what is asked of it
abbrev pub Paid : Seat → Type 0
Paid x = x.asked ≤ x.held

-- it has a figure in its mean
abbrev pub Figured : Seat → Type 0
Figured x = 1 ≤ x.days

abbrev pub strike_wants : List Seat → List Pledges → ℕ → Marking → List Row → Wants
strike_wants t p s marking rows =
    (Book t p, refusals.NoBook)
    ∷ (IsSegment s, refusals.Segment)
    ∷ (length rows ≡ all_members, refusals.Lengths)
    ∷ (SomeoneShares t s, refusals.NoneShares)
    ∷ (EachSharing t s Paid, refusals.Short)
    ∷ (EachSharing t s Figured, refusals.NoFigure)
    ∷ (fund_of (members_in t s) marking ≤ fund_limit, refusals.FundSize)
    ∷ []

-- a seat after a strike that asks this of it, if it shares: its mean starts anew
abbrev pub settled : ℕ → Seat → Seat
settled ask x = record { class = x.class; minimum = x.minimum; held = x.held; asked = cond (shares x.class) ask x.asked; sum = 0; days = 0; last_day = x.last_day; last_figure = x.last_figure }

-- every seat of the segment is settled by what its member's row asks
abbrev pub settled_by : List Seat → ℕ → List Row → List Seat
settled_by t s rows = written t s (λ m. settled (ask_in rows m) (seat_at t m s))

abbrev pub Strike : List Seat → List Pledges → ℕ → Marking → List Row → Result ℕ Refusal → List Seat → List Row → Type 0
Strike t p s marking rows r t' rows' =
    Judged (strike_wants t p s marking rows) r
    (λ size. Told (members_in t s) marking size rows' × (t' ≡ settled_by t s rows'))
    ((t' ≡ t) × (rows' ≡ rows))
