-- The members that share in a segment, in the order of their numbers. Who shares, and each member's minimum and mean, are told
-- by functions of the member, whatever they are told from.
use Rattle.std.specs.Prelude.{ℕ, zero, suc, ◌+◌, ◌-◌, Bool, cond, List, [], ◌∷◌, ◌++◌, map, length}
use Rattle.terms.specs.Limits.{last_member}
use Rattle.terms.specs.Sums.{sum_to}
use Rattle.sizing.specs.Marks.{Marking, size_of}
use Rattle.asks.specs.Steps.{ask_at}

pub record Members : Type 0 where
  pub shares : ℕ → Bool
  pub minimum : ℕ → ℕ
  pub mean : ℕ → ℕ

-- those of the members 1 to n that share; shut, since at 64 it would open 64 times
unfoldable pub sharers_to : ℕ → (ℕ → Bool) → List ℕ
sharers_to zero shares = []
sharers_to (suc n) shares = sharers_to n shares ++ cond (shares (suc n)) (suc n ∷ []) []

abbrev pub sharers : Members → List ℕ
sharers x = sharers_to last_member x.shares

-- the place of a member among them: how many share that have a smaller number
abbrev pub place_of : Members → ℕ → ℕ
place_of x m = length (sharers_to (m - 1) x.shares)

-- their minimums and means, by place
abbrev pub minimums_of : Members → List ℕ
minimums_of x = map x.minimum (sharers x)

abbrev pub means_of : Members → List ℕ
means_of x = map x.mean (sharers x)

-- the fund: the size that a marking gives on their means
abbrev pub fund_of : Members → Marking → ℕ
fund_of x marking = size_of (marking (means_of x)) (means_of x)

-- what the four steps ask of a member that shares
abbrev pub ask_of : Members → Marking → ℕ → ℕ
ask_of x marking m = ask_at (fund_of x marking) (minimums_of x) (means_of x) (place_of x m)

-- whether its place is marked
abbrev pub mark_of : Members → Marking → ℕ → Bool
mark_of x marking m = marking (means_of x) (place_of x m)

-- a sum over all members, and over those that share
abbrev pub over_members : (ℕ → ℕ) → ℕ
over_members f = sum_to last_member (λ k. f (k + 1))

abbrev pub over_sharers : Members → (ℕ → ℕ) → ℕ
over_sharers x f = over_members (λ m. cond (x.shares m) (f m) 0)

-- how many share
abbrev pub how_many : Members → ℕ
how_many x = over_sharers x (λ _. 1)
