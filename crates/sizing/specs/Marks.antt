-- A marking of places, the size that it comes to, and what makes it a sizing rule's.
use Rattle.std.specs.Prelude.{◌≡◌, ℕ, ◌<◌, ◌≤◌, Bool, false, cond, List, length, slice_index}
use Rattle.terms.specs.Sums.{sum_to}
use Rattle.sizing.specs.Lists.{AreMeans}

-- which places of a list of means are marked
abbrev pub Marking : Type 0
Marking = List ℕ → ℕ → Bool

-- the sum of the marked means
abbrev pub size_of : (ℕ → Bool) → List ℕ → ℕ
size_of marks means = sum_to (length means) (λ k. cond (marks k) (slice_index means k) 0)

-- a sizing rule marks nothing past the list, and the marked means add to at least the largest; on lists of means alone
pub record Lawful (marking : Marking) : Type 0 where
  pub past : (means : List ℕ) → AreMeans means → (k : ℕ) → length means ≤ k → marking means k ≡ false
  pub largest : (means : List ℕ) → AreMeans means → (k : ℕ) → k < length means → slice_index means k ≤ size_of (marking means) means
