-- Examples worked by hand: on the left what the definitions give, on the right what is expected.
use Rattle.std.specs.Prelude.{◌≡◌, List, [], ◌∷◌, ℕ}
use Rattle.sizing.specs.Marks.{size_of}
use Rattle.sizing.specs.Places.{cover_two}
use Rattle.asks.specs.Steps.{asks_of, quotas_of, rounded}
use Rattle.tables.specs.Book.{no_seat}
use Rattle.tables.specs.Writing.{mean_of}
use Rattle.figures.specs.declared.kinds.Numbers.{Numbers}
use Rattle.fund.specs.Calls.{booked}

abbrev pub Example : Type 0
Example = List ℕ × List ℕ

-- every example is as expected
abbrev pub Right : List Example → Type 0
Right [] = Unit {0}
Right (e ∷ es) = (e.0 ≡ e.1) × Right es

abbrev figure : ℕ → ℕ → Numbers
figure day amount = record { member = 1; segment = 1; day = day; amount = amount }

abbrev means : List ℕ
means = 4000000 ∷ 1000000 ∷ 100000 ∷ []

abbrev minimums : List ℕ
minimums = 300000 ∷ 300000 ∷ 300000 ∷ []

-- the fund of cover-two on these means
abbrev fund : ℕ
fund = size_of (cover_two means) means

abbrev pub worked : List Example
worked =
    -- figures 10 and 11 have mean 11
    (mean_of (booked (figure 2 11) (booked (figure 1 10) no_seat)) ∷ [], 11 ∷ [])
    -- an ask of 300,000 remains, 300,001 becomes 310,000
    ∷ (rounded 300000 ∷ [], 300000 ∷ [])
    ∷ (rounded 300001 ∷ [], 310000 ∷ [])
    -- means 4,000,000, 1,000,000 and 100,000 with minimums of 300,000: the fund, the quotas, the asks
    ∷ (fund ∷ [], 5000000 ∷ [])
    ∷ (quotas_of fund means, 3921569 ∷ 980393 ∷ 98040 ∷ [])
    ∷ (asks_of fund minimums means, 3760000 ∷ 950000 ∷ 300000 ∷ [])
    ∷ []
