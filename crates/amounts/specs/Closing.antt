-- Closing out: what it wants, in order, and what it leaves.
use Rattle.std.specs.Prelude.{◌≡◌, ℕ, ◌<◌, ◌≤◌, List, [], ◌∷◌, map, length, sum, ℤ, pos, negsuc, Result, slice_index, slice_index_or, unsigned_abs}
use Rattle.terms.specs.Limits.{most_positions, quantity_limit}
use Rattle.terms.specs.Refusing.{Judged, Wants}
use Rattle.terms.specs.declared.refusals.Refusal.{Refusal}
use Rattle.terms.specs.declared.refusals.Refusal.TheVariants as refusals
use Rattle.share.specs.Split.{part_at}

-- the size of a position of the sign opposite to the quantity's, and 0 of any other
abbrev pub contrary_of : ℤ → ℤ → ℕ
contrary_of (pos q) (pos p) = 0
contrary_of (pos q) (negsuc p) = unsigned_abs (negsuc p)
contrary_of (negsuc q) (pos p) = unsigned_abs (pos p)
contrary_of (negsuc q) (negsuc p) = 0

abbrev pub WithinQuantity : ℤ → Type 0
WithinQuantity q = unsigned_abs q ≤ quantity_limit

abbrev pub contraries : ℤ → List ℤ → List ℕ
contraries quantity positions = map (contrary_of quantity) positions

-- the contrary contracts together
abbrev pub contrary_sum : ℤ → List ℤ → ℕ
contrary_sum quantity positions = sum (contraries quantity positions)

abbrev pub closing_wants : ℤ → List ℤ → List ℕ → Wants
closing_wants quantity positions parts =
    (length parts ≡ length positions, refusals.Lengths)
    ∷ ((length positions ≤ most_positions) × ((k : ℕ) → k < length positions → WithinQuantity (slice_index_or positions k (pos 0))), refusals.Positions)
    ∷ ((1 ≤ unsigned_abs quantity) × WithinQuantity quantity, refusals.Amount)
    ∷ (unsigned_abs quantity ≤ contrary_sum quantity positions, refusals.TooMuch)
    ∷ []

-- the quantity, unsigned, split over the contrary positions
pub record Parts (quantity : ℤ) (positions : List ℤ) (parts : List ℕ) : Type 0 where
  pub long : length parts ≡ length positions
  pub each : (k : ℕ) → k < length positions → slice_index parts k ≡ part_at (unsigned_abs quantity) (contraries quantity positions) k

abbrev pub CloseOut : ℤ → List ℤ → List ℕ → Result (Unit {0}) Refusal → List ℕ → Type 0
CloseOut quantity positions parts r parts' = Judged (closing_wants quantity positions parts) r (λ _. Parts quantity positions parts') (parts' ≡ parts)
