-- Refusals: their numbers, and the first of several that applies.
use Rattle.std.specs.Prelude.{◌≡◌, ℕ, Bool, cond, ◌⊎◌, List, [], ◌∷◌, Some, None, Ok, Err, Option, Result}
use Rattle.terms.specs.declared.refusals.Refusal.{Refusal}
use Rattle.terms.specs.declared.refusals.Refusal.TheVariants.{Member, Segment, Day, Scenarios, Sheet, Positions, Margin, Column, NoBook, SeatTaken, WrongClass, Minimum, Amount, Ceiling, NoSeat, PastDay, DaysFull, Exempt, Short, NoFigure, NoneShares, FundSize, TooLittleLeft, TooMuch, EquityShort, Lengths, Key, Field, Count, TooLong}

-- the number of each refusal
abbrev pub number_of : Refusal → ℕ
number_of Member = 1
number_of Segment = 2
number_of Day = 3
number_of Scenarios = 4
number_of Sheet = 5
number_of Positions = 6
number_of Margin = 7
number_of Column = 8
number_of NoBook = 10
number_of SeatTaken = 11
number_of WrongClass = 12
number_of Minimum = 13
number_of Amount = 14
number_of Ceiling = 15
number_of NoSeat = 16
number_of PastDay = 17
number_of DaysFull = 18
number_of Exempt = 19
number_of Short = 20
number_of NoFigure = 21
number_of NoneShares = 22
number_of FundSize = 23
number_of TooLittleLeft = 24
number_of TooMuch = 25
number_of EquityShort = 26
number_of Lengths = 27
number_of Key = 31
number_of Field = 32
number_of Count = 33
number_of TooLong = 34

-- what a call tests, in order, each with the refusal where it fails
abbrev pub Tests : Type 0
Tests = List (Bool × Refusal)

-- the refusal of the first test that fails
abbrev pub first_refusal : Tests → Option Refusal
first_refusal [] = None
first_refusal (t ∷ ts) = cond t.0 (first_refusal ts) (Some t.1)

-- the refusal that an answer holds
abbrev pub refusal_of : {X : Type 0} → Result X Refusal → Option Refusal
refusal_of (Ok x) = None
refusal_of (Err e) = Some e

-- what a call on the book wants, in order, each with the refusal where it fails
abbrev pub Wants : Type 1
Wants = List (Type 0 × Refusal)

-- all of it holds
abbrev pub Met : Wants → Type 0
Met [] = Unit {0}
Met (w ∷ ws) = w.0 × Met ws

-- e is the refusal of the first that fails
abbrev pub Fails : Wants → Refusal → Type 0
Fails [] e = ⊥
Fails (w ∷ ws) e = ((w.0 → ⊥) × (e ≡ w.1)) ⊎ (w.0 × Fails ws e)

-- an answer is good where all is met, and then `good` holds; or it is the refusal of the first that fails, and then `kept`
abbrev pub Judged : {X : Type 0} → Wants → Result X Refusal → (X → Type 0) → Type 0 → Type 0
Judged ws (Ok x) good kept = Met ws × good x
Judged ws (Err e) good kept = Fails ws e × kept
