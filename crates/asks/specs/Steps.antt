-- The four steps of a strike, over the minimums and the means of the members that share in a segment, by place. F is the size
-- of the fund, R the sum of the means, A the sum of the minimums.
use Rattle.std.specs.Prelude.{◌≡◌, ℕ, ◌+◌, ◌-◌, ◌*◌, ◌<◌, ◌≤◌, Bool, cond, List, map, length, nat_le, nat_lt, slice_index}
use Rattle.std.specs.List.{range_with_len}
use Rattle.terms.specs.Limits.{minimum_limit, rounding_step}
use Rattle.terms.specs.Rounding.{rounded_to, up}
use Rattle.terms.specs.Sums.{sum_to}
use Rattle.sizing.specs.Lists.{sum_of}

-- step 1: the quota is F × mean / R, rounded up, and 0 where R is 0
abbrev pub quota_of : ℕ → ℕ → ℕ → ℕ
quota_of F R mean = up (F * mean) R

-- step 2: a member whose quota is at most its minimum is excluded
abbrev pub excluded : ℕ → ℕ → Bool
excluded quota minimum = nat_le quota minimum

-- what a quota has above its minimum, and nothing where the member is excluded
abbrev pub above_of : ℕ → ℕ → ℕ
above_of quota minimum = cond (excluded quota minimum) 0 (quota - minimum)

-- where F is above A, (F - A) × (quota - minimum) / E, rounded up
abbrev pub additional : ℕ → ℕ → ℕ → ℕ → ℕ → ℕ
additional F A E quota minimum = cond (nat_lt A F) (up ((F - A) * (quota - minimum)) E) 0

-- step 3: an excluded member contributes its minimum, every other one the additional part besides
abbrev pub contribution_of : ℕ → ℕ → ℕ → ℕ → ℕ → ℕ
contribution_of F A E quota minimum = cond (excluded quota minimum) minimum (minimum + additional F A E quota minimum)

-- step 4: every contribution is rounded up to a multiple of the step
abbrev pub rounded : ℕ → ℕ
rounded contribution = rounded_to rounding_step contribution

-- the quota at a place
abbrev pub quota_at : ℕ → List ℕ → ℕ → ℕ
quota_at F means k = quota_of F (sum_of means) (slice_index means k)

-- E, the sum of quota - minimum over the members that are not excluded
abbrev pub above_sum : ℕ → List ℕ → List ℕ → ℕ
above_sum F minimums means = sum_to (length means) (λ k. above_of (quota_at F means k) (slice_index minimums k))

-- what is asked of the member at a place
abbrev pub ask_at : ℕ → List ℕ → List ℕ → ℕ → ℕ
ask_at F minimums means k = rounded (contribution_of F (sum_of minimums) (above_sum F minimums means) (quota_at F means k) (slice_index minimums k))

-- by place, all quotas and all asks
abbrev pub quotas_of : ℕ → List ℕ → List ℕ
quotas_of F means = map (quota_at F means) (range_with_len 0 (length means))

abbrev pub asks_of : ℕ → List ℕ → List ℕ → List ℕ
asks_of F minimums means = map (ask_at F minimums means) (range_with_len 0 (length means))

-- minimums of n members
abbrev pub AreMinimums : List ℕ → ℕ → Type 0
AreMinimums xs n = (length xs ≡ n) × ((k : ℕ) → k < n → slice_index xs k ≤ minimum_limit)
