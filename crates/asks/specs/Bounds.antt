-- The bounds of what is asked, for any size of the fund that is at most the sum of the means.
use Rattle.std.specs.Prelude.{◌≡◌, ℕ, ◌+◌, ◌*◌, ◌<◌, ◌≤◌, max, List, length, slice_index}
use Rattle.terms.specs.Limits.{rounding_step}
use Rattle.sizing.specs.Lists.{sum_of}
use Rattle.asks.specs.Steps.{ask_at, asks_of, rounded}

-- the most that a member with this minimum and this mean can be asked for
abbrev pub most_asked : ℕ → ℕ → ℕ
most_asked minimum mean = rounded (max minimum mean)

-- what is asked of n members with these minimums and means
pub record WithinBounds (F : ℕ) (minimums means asks : List ℕ) : Type 0 where
  pub least : (k : ℕ) → k < length means → slice_index minimums k ≤ slice_index asks k
  pub most : (k : ℕ) → k < length means → slice_index asks k ≤ most_asked (slice_index minimums k) (slice_index means k)
  pub enough : max F (sum_of minimums) ≤ sum_of asks
  pub near : sum_of asks < max F (sum_of minimums) + rounding_step * length means

-- the four steps keep them
abbrev pub AsksWithinBounds : Type 0
AsksWithinBounds = (F : ℕ) (minimums means : List ℕ) → length minimums ≡ length means → 1 ≤ length means → F ≤ sum_of means → WithinBounds F minimums means (asks_of F minimums means)

-- however the others trade and whatever sizes the fund, a member with this minimum and this mean is asked for no more than `top`
abbrev pub NeverAskedMore : ℕ → ℕ → ℕ → Type 0
NeverAskedMore minimum mean top = (F : ℕ) (minimums means : List ℕ) (k : ℕ) → length minimums ≡ length means → F ≤ sum_of means → k < length means → slice_index minimums k ≡ minimum → slice_index means k ≡ mean → ask_at F minimums means k ≤ top
