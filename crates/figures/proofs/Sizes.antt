-- How large products, sums and columns get. Assumes nothing.
use Rattle.std.proofs.Common.{◌≡◌, ℕ, zero, suc, ◌+◌, ◌*◌, ◌≤◌, max, true, List, [], ◌∷◌, get_or, ℤ, pos, negsuc, ◌+ℤ◌, ◌*ℤ◌, neg_ℤ, nat_abs, fold, refl, mul-le-mul, arith, w64, SFits}
use Rattle.std.proofs.lemmas.Bool.{and_parts, leb-true}
use Rattle.std.proofs.lemmas.Bool.Decides.{nat_tests}
use Rattle.terms.specs.Limits.{quantity_limit, change_limit}
use Rattle.figures.specs.Accounts.{quantity_ok, change_ok, product_limit}

pub fits64 : (z : ℤ) → nat_abs z ≤ 1000000000000000 → SFits w64 z
fits64 (pos a) h = record { sfits = omega arith }
fits64 (negsuc a) h = record { sfits = omega arith }

neg_abs : (n : ℕ) → nat_abs (neg_ℤ (pos n)) ≡ n
neg_abs zero = refl
neg_abs (suc n) = refl

mul_abs : (a b : ℤ) → nat_abs (a *ℤ b) ≡ nat_abs a * nat_abs b
mul_abs (pos a) (pos b) = refl
mul_abs (pos a) (negsuc b) = neg_abs (a * suc b)
mul_abs (negsuc a) (pos b) = neg_abs (suc a * b)
mul_abs (negsuc a) (negsuc b) = refl

quantity_small : (q : ℤ) → quantity_ok q ≡ true → nat_abs q ≤ quantity_limit
quantity_small q h = leb-true _ _ (and_parts _ _ h).1

pub product_small : (q c : ℤ) → quantity_ok q ≡ true → change_ok c ≡ true → nat_abs (q *ℤ c) ≤ product_limit
product_small q c h k = rw mul_abs (mul-le-mul {n₂ = quantity_limit} {m₂ = change_limit} (quantity_small q h) (leb-true _ _ k))

pub quantity_fits : (q : ℤ) → quantity_ok q ≡ true → SFits w64 q
quantity_fits q h = fits64 q (omega (arith, quantity_small q h))

pub sum_small : (a b : ℤ) (m n : ℕ) → nat_abs a ≤ m → nat_abs b ≤ n → nat_abs (a +ℤ b) ≤ m + n
sum_small (pos a) (pos b) m n h k = omega arith
sum_small (pos a) (negsuc b) m n h k = grind (arith, nat_tests)
sum_small (negsuc a) (pos b) m n h k = grind (arith, nat_tests)
sum_small (negsuc a) (negsuc b) m n h k = omega arith

pub largest_small : (xs : List ℕ) (m a : ℕ) → a ≤ m → ((k : ℕ) → get_or xs k 0 ≤ m) → fold max a xs ≤ m
largest_small [] m a h k = h
largest_small (x ∷ xs) m a h k = largest_small xs m (max a x) (omega (arith, k 0)) (λ i. k (suc i))
