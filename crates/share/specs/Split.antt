-- The proportional split of a total T over weights w 0, w 1, .., of which there are n, and which add to W.
use Rattle.std.specs.Prelude.{◌≡◌, ℕ, ◌+◌, ◌-◌, ◌*◌, ◌/◌, ◌<◌, ◌≤◌, List, map, length, slice_index}
use Rattle.std.specs.List.{range_with_len}
use Rattle.terms.specs.Sums.{sum_to}

-- T × x / W rounded down, and 0 where W is 0
abbrev pub cut : ℕ → ℕ → ℕ → ℕ
cut T W x = (T * x) / W

-- part k: T × (w 0 + .. + w k) / W rounded down, less the same for the weights before it
abbrev pub part_by : ℕ → ℕ → (ℕ → ℕ) → ℕ → ℕ
part_by T n w k = cut T (sum_to n w) (sum_to (k + 1) w) - cut T (sum_to n w) (sum_to k w)

-- of a list of weights
abbrev pub weight_in : List ℕ → ℕ → ℕ
weight_in ws k = slice_index ws k

abbrev pub part_at : ℕ → List ℕ → ℕ → ℕ
part_at T ws k = part_by T (length ws) (weight_in ws) k

abbrev pub parts_of : ℕ → List ℕ → List ℕ
parts_of T ws = map (part_at T ws) (range_with_len 0 (length ws))

-- the parts add to the total, none is above its weight, and each differs from T × w / W by less than one
pub record InProportion (T n : ℕ) (w : ℕ → ℕ) : Type 0 where
  pub all : sum_to n (part_by T n w) ≡ T
  pub within : (k : ℕ) → part_by T n w k ≤ w k
  pub under : (k : ℕ) → 0 < sum_to n w → part_by T n w k * sum_to n w < T * w k + sum_to n w
  pub over : (k : ℕ) → 0 < sum_to n w → T * w k < part_by T n w k * sum_to n w + sum_to n w
  pub idle : (k : ℕ) → sum_to n w ≡ 0 → part_by T n w k ≡ 0

-- of any total up to the sum of any weights
abbrev pub SplitInProportion : Type 0
SplitInProportion = (T n : ℕ) (w : ℕ → ℕ) → T ≤ sum_to n w → InProportion T n w
