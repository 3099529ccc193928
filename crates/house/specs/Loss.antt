-- A loss of a segment: what it wants, in order, and what it leaves.
use Rattle.std.specs.Prelude.{◌≡◌, ℕ, ◌-◌, ◌≤◌, true, List, [], ◌∷◌, length, Result}
use Rattle.terms.specs.Limits.{all_members, held_limit}
use Rattle.terms.specs.Refusing.{Judged, Wants}
use Rattle.terms.specs.declared.refusals.Refusal.{Refusal}
use Rattle.terms.specs.declared.refusals.Refusal.TheVariants as refusals
use Rattle.tables.specs.Book.{Book, IsMember, IsSegment, held_in, seat_at, shares}
use Rattle.tables.specs.Writing.{written}
use Rattle.tables.specs.declared.records.Pledges.{Pledges}
use Rattle.tables.specs.declared.records.Seat.{Seat}
use Rattle.fund.specs.Calls.{Has, holding}
use Rattle.house.specs.Holders.{Holders}
use Rattle.house.specs.Rows.{Charged, amount_in}

-- who shares in a segment and what is held there, as the tables have it
abbrev pub holders_in : List Seat → ℕ → Holders
holders_in t s = record { shares = λ m. shares (seat_at t m s).class; held = λ m. (seat_at t m s).held }

abbrev pub loss_wants : List Seat → List Pledges → ℕ → ℕ → ℕ → List ℕ → Wants
loss_wants t p d s a charges =
    (Book t p, refusals.NoBook)
    ∷ (IsMember d, refusals.Member)
    ∷ (IsSegment s, refusals.Segment)
    ∷ (length charges ≡ all_members, refusals.Lengths)
    ∷ (Has t d s, refusals.NoSeat)
    ∷ ((holders_in t s).shares d ≡ true, refusals.Exempt)
    ∷ ((1 ≤ a) × (a ≤ held_limit), refusals.Amount)
    ∷ (a ≤ held_in t s, refusals.TooMuch)
    ∷ []

-- a seat from which a charge is taken: asked stays
abbrev pub charged_by : ℕ → Seat → Seat
charged_by charge x = holding (x.held - charge) x

-- every seat of the segment pays its member's charge
abbrev pub charged_all : List Seat → ℕ → List ℕ → List Seat
charged_all t s charges = written t s (λ m. charged_by (amount_in charges m) (seat_at t m s))

abbrev pub Loss : List Seat → List Pledges → ℕ → ℕ → ℕ → List ℕ → Result (Unit {0}) Refusal → List Seat → List ℕ → Type 0
Loss t p d s a charges r t' charges' =
    Judged (loss_wants t p d s a charges) r
    (λ _. Charged (holders_in t s) d a charges' × (t' ≡ charged_all t s charges'))
    ((t' ≡ t) × (charges' ≡ charges))
