-- The library's sum of a list, and the sum by places. Assumes nothing.
use Rattle.std.proofs.Common.{◌≡◌, ℕ, zero, suc, ◌<◌, ◌≤◌, ◌^◌, List, length, get_or, take, sum, sym, ap, ◌∙◌, add-one, arith}
use Rattle.std.proofs.lemmas.List.{take_all}
use Rattle.std.proofs.lemmas.List.Sums.{sum_by_more}
use Rattle.terms.specs.Limits.{all_members, figure_limit}
use Rattle.terms.specs.Sums.{sum_to}
use Rattle.terms.proofs.Adding.{sum_to_const, sum_to_le, sum_to_none, sum_to_suc}
use Rattle.sizing.specs.Lists.{sum_of}

sum_taken : (xs : List ℕ) (i : ℕ) → i ≤ length xs → sum (take i xs) ≡ sum_to i (λ k. get_or xs k 0)
sum_taken xs zero l = sym (sum_to_none (λ k. get_or xs k 0))
sum_taken xs (suc i) l =
    let lt : i < length xs = omega arith in
    let e = rw add-one at (sum_by_more (λ (x : ℕ). x) xs i 0 lt) in
    omega (arith, e, sum_taken xs i (omega arith), sum_to_suc i (λ k. get_or xs k 0))

pub sum_is : (xs : List ℕ) → sum xs ≡ sum_of xs
sum_is xs = ap sum (sym (take_all (length xs) xs (omega arith))) ∙ sum_taken xs (length xs) (omega arith)

-- the sum of a segment's means, or of any numbers within their bounds
pub sum_fits : (xs : List ℕ) → length xs ≤ all_members → ((k : ℕ) → k < length xs → get_or xs k 0 ≤ figure_limit) → sum xs < 2 ^ 64
sum_fits xs few small = omega (arith, sum_is xs, sum_to_le (length xs) (λ k. get_or xs k 0) (λ _. figure_limit) small, sum_to_const (length xs) figure_limit)
