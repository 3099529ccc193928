-- The figure that a tally is struck into.
use Rattle.std.specs.Prelude.{◌≡◌, ℕ, max, List, fold}
use Rattle.terms.specs.Limits.{mil}
use Rattle.terms.specs.Rounding.{up}
use Rattle.figures.specs.declared.kinds.Closing.{Closing}
use Rattle.figures.specs.declared.kinds.Tally.{Tally}
use Rattle.figures.specs.declared.kinds.Figure.{Figure}
use Rattle.figures.specs.declared.kinds.Numbers.{Numbers}

abbrev pub largest_of : List ℕ → ℕ
largest_of columns = fold max 0 columns

-- pesos in mils, rounded up
abbrev pub in_mils : ℕ → ℕ
in_mils pesos = up pesos mil

-- the closing is carried on, and the figure is the largest column in mils
pub record Struck (t : Tally) (f : Figure) : Type 0 where
  pub closing : f.closing ≡ t.closing
  pub amount : f.amount ≡ in_mils (largest_of t.columns)

-- what a figure of this closing and amount says
abbrev pub numbers_at : Closing → ℕ → Numbers
numbers_at c amount = record { member = c.member.number; segment = c.segment.number; day = c.day.number; amount = amount }

-- what a figure says
abbrev pub numbers_of : Figure → Numbers
numbers_of f = numbers_at f.closing f.amount
