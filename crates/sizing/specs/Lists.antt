-- Lists of means.
use Rattle.std.specs.Prelude.{ℕ, ◌<◌, ◌≤◌, List, length, slice_index}
use Rattle.terms.specs.Limits.{all_members, figure_limit}
use Rattle.terms.specs.Sums.{sum_to}

-- the first `count` numbers are 1 to 64, each at most 1,000,000,000
abbrev pub Bounded : List ℕ → ℕ → Type 0
Bounded list count = (1 ≤ count) × (count ≤ all_members) × ((k : ℕ) → k < count → slice_index list k ≤ figure_limit)

-- a list that a rule is given
abbrev pub AreMeans : List ℕ → Type 0
AreMeans means = Bounded means (length means)

-- the sum of a list
abbrev pub sum_of : List ℕ → ℕ
sum_of xs = sum_to (length xs) (λ k. slice_index xs k)
