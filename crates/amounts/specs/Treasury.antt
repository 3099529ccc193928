-- The treasury amount: what it wants, in order, and what it is.
use Rattle.std.specs.Prelude.{◌≡◌, ℕ, max, true, List, [], ◌∷◌, Result}
use Rattle.terms.specs.Classes.{owes}
use Rattle.terms.specs.Limits.{treasury_floor}
use Rattle.terms.specs.Refusing.{Judged, Wants}
use Rattle.terms.specs.declared.classes.Duty.TheVariants as duties
use Rattle.terms.specs.declared.refusals.Refusal.{Refusal}
use Rattle.terms.specs.declared.refusals.Refusal.TheVariants as refusals
use Rattle.tables.specs.Book.{Book, IsMember, IsSegment, seat_at}
use Rattle.tables.specs.Writing.{mean_of}
use Rattle.tables.specs.declared.records.Pledges.{Pledges}
use Rattle.tables.specs.declared.records.Seat.{Seat}
use Rattle.fund.specs.Calls.{Has}

abbrev pub treasury_wants : List Seat → List Pledges → ℕ → ℕ → Wants
treasury_wants t p m s =
    (Book t p, refusals.NoBook)
    ∷ (IsMember m, refusals.Member)
    ∷ (IsSegment s, refusals.Segment)
    ∷ (Has t m s, refusals.NoSeat)
    ∷ (owes (seat_at t m s).class duties.TreasuryAmount ≡ true, refusals.Exempt)
    ∷ []

-- the larger of the mean and the floor
abbrev pub treasury_of : Seat → ℕ
treasury_of x = max (mean_of x) treasury_floor

abbrev pub TreasuryAmount : List Seat → List Pledges → ℕ → ℕ → Result ℕ Refusal → Type 0
TreasuryAmount t p m s r = Judged (treasury_wants t p m s) r (λ amount. amount ≡ treasury_of (seat_at t m s)) (Unit {0})
