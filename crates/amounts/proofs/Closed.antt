-- The contrary sizes of positions within their limits. Assumes nothing.
use Rattle.std.proofs.Common.{◌≡◌, ℕ, zero, suc, ◌<◌, ◌≤◌, List, map, length, get_or, ℤ, pos, negsuc, nat_abs, refl, ap, ◌∙◌, arith}
use Rattle.std.proofs.lemmas.List.{get_or_default, length-map, map-id}
use Rattle.std.proofs.lemmas.List.Sums.{sum-map, sum_by-le}
use Rattle.terms.specs.Limits.{most_positions, quantity_limit, split_limit}
use Rattle.share.specs.Split.{part_at}
use Rattle.amounts.specs.Closing.{Parts, WithinQuantity, contraries, contrary_of, contrary_sum}

-- a quantity that is not 0 has a size
pub not_0 : (q : ℤ) → (q ≡ pos 0 → ⊥) → 1 ≤ nat_abs q
not_0 (pos zero) ne = absurd (ne refl)
not_0 (pos (suc n)) ne = omega arith
not_0 (negsuc n) ne = omega arith

contrary_at_most : (q p : ℤ) → contrary_of q p ≤ nat_abs p
contrary_at_most (pos q) (pos p) = omega arith
contrary_at_most (pos q) (negsuc p) = omega arith
contrary_at_most (negsuc q) (pos p) = omega arith
contrary_at_most (negsuc q) (negsuc p) = omega arith

pub whole_small : (q : ℤ) (ps : List ℤ) → length ps ≤ most_positions → ((k : ℕ) → k < length ps → WithinQuantity (get_or ps k (pos 0))) → contrary_sum q ps ≤ split_limit
whole_small q ps few small =
    omega (
      arith,
      sum-map (contrary_of q) ps,
      sum_by-le (contrary_of q) quantity_limit ps (λ k d l. omega (arith, contrary_at_most q (get_or ps k d), small k l, ap nat_abs (get_or_default ps k d (pos 0) l))),
    )

-- the parts of a split over the contrary sizes
pub parts_are : (q : ℤ) (ps : List ℤ) (sizes parts : List ℕ) (size : ℕ) → sizes ≡ contraries q ps → size ≡ nat_abs q → length parts ≡ length ps → ((k : ℕ) → k < length sizes → get_or parts k 0 ≡ part_at size (map (λ w. w) sizes) k) → Parts q ps parts
parts_are q ps sizes parts size es e long h = record {
  long = long;
  each = λ k l. h k (omega (arith, ap length es, length-map ps (contrary_of q))) ∙ ap (λ ws. part_at size ws k) (map-id sizes ∙ es) ∙ ap (λ t. part_at t (contraries q ps) k) e;
}
