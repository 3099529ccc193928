-- The two rules in words: what is marked is the first largest, and among the rest the first largest again.
use Rattle.std.specs.Prelude.{◌≡◌, ℕ, ◌<◌, ◌≤◌, true, ◌⊎◌, List, length, slice_index}
use Rattle.sizing.specs.Places.{cover_one, cover_two}

-- of the places for which P holds, r is the first that has the largest number
pub record FirstLargest (means : List ℕ) (P : ℕ → Type 0) (r : ℕ) : Type 0 where
  pub within : r < length means
  pub one_of_them : P r
  pub largest : (k : ℕ) → k < length means → P k → slice_index means k ≤ slice_index means r
  pub before : (k : ℕ) → k < r → P k → slice_index means k < slice_index means r

-- any place
abbrev pub Any : ℕ → Type 0
Any k = Unit {0}

-- any place but that of the first largest
abbrev pub Rest : List ℕ → ℕ → Type 0
Rest means k = FirstLargest means Any k → ⊥

pub record FirstLargestStands : Type 0 where
  -- cover-one marks the first largest and nothing else
  pub one : (means : List ℕ) (k : ℕ) → cover_one means k ≡ true → FirstLargest means Any k
  pub one_back : (means : List ℕ) (k : ℕ) → FirstLargest means Any k → cover_one means k ≡ true
  -- cover-two marks the first largest, the first largest among the rest, and nothing else
  pub two : (means : List ℕ) (k : ℕ) → cover_two means k ≡ true → FirstLargest means Any k ⊎ FirstLargest means (Rest means) k
  pub two_back : (means : List ℕ) (k : ℕ) → FirstLargest means Any k ⊎ FirstLargest means (Rest means) k → cover_two means k ≡ true
