-- Sizes of funds. Assumes nothing.
use Rattle.std.specs.Prelude.{◌≡◌, ℕ, ◌+◌, ◌<◌, ◌≤◌, Bool, true, false, cond, List, length, slice_index}
use Rattle.std.proofs.Common.{add-zero, arith, ap, ◌∙◌}
use Rattle.std.proofs.lemmas.Bool.{cond-true, cond-false}
use Rattle.terms.specs.Sums.{sum_to}
use Rattle.terms.proofs.Adding.{at_le_sum_to, sum_to_le, sum_to_more}
use Rattle.sizing.specs.Lists.{sum_of}
use Rattle.sizing.specs.Marks.{size_of}

cond_le : (b : Bool) (x : ℕ) → cond b x 0 ≤ x
cond_le true x = omega arith
cond_le false x = omega arith

module _ (marks : ℕ → Bool) (means : List ℕ) where
  -- what a place adds to the size
  abbrev pub counted : ℕ → ℕ
  counted k = cond (marks k) (slice_index means k) 0

  pub size_at_most_sum : size_of marks means ≤ sum_of means
  size_at_most_sum = sum_to_le (length means) counted (λ k. slice_index means k) (λ k l. cond_le (marks k) (slice_index means k))

  pub marked_at_most_size : (k : ℕ) → k < length means → marks k ≡ true → slice_index means k ≤ size_of marks means
  marked_at_most_size k l t = omega (arith, at_le_sum_to (length means) counted k l, cond-true (marks k) (slice_index means k) 0 t)

  -- one place more
  pub size_marked : (i : ℕ) → marks i ≡ true → sum_to (i + 1) counted ≡ sum_to i counted + slice_index means i
  size_marked i t = sum_to_more i counted ∙ ap (λ (x : ℕ). sum_to i counted + x) (cond-true (marks i) (slice_index means i) 0 t)

  pub size_unmarked : (i : ℕ) → marks i ≡ false → sum_to (i + 1) counted ≡ sum_to i counted
  size_unmarked i t = sum_to_more i counted ∙ ap (λ (x : ℕ). sum_to i counted + x) (cond-false (marks i) (slice_index means i) 0 t) ∙ add-zero (sum_to i counted)
