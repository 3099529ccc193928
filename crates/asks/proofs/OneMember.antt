-- The four steps, one member at a time. Assumes nothing.
use Rattle.std.proofs.Common.{◌≡◌, ℕ, zero, suc, ◌+◌, ◌-◌, ◌*◌, ◌≤◌, ltb, refl, ap, mul-le-mul_right, mul_comm, mul-zero, zero-mul, arith}
use Rattle.std.proofs.lemmas.Bool.{cond_both, leb-true, ltb-false}
use Rattle.std.proofs.lemmas.Nat.{mul-le}
use Rattle.terms.specs.Limits.{figure_limit, fund_limit}
use Rattle.terms.specs.Rounding.{up}
use Rattle.terms.proofs.Dividing.{up_by_zero, up_least, up_of_zero, up_self}
use Rattle.asks.specs.Steps.{above_of, additional, contribution_of, excluded, quota_of}

-- no quota is above its mean
pub quota_at_most_mean : (F R mean : ℕ) → F ≤ R → quota_of F R mean ≤ mean
quota_at_most_mean F zero mean h = omega (arith, up_by_zero (F * mean))
quota_at_most_mean F (suc r) mean h = up_least (F * mean) (suc r) mean (omega arith) (omega (arith, mul-le-mul_right {m = F} {n = suc r} mean h, mul_comm mean (suc r)))

-- without cases: subtraction stops at 0
pub above_is : (q m : ℕ) → above_of q m ≡ q - m
above_is q m = cond_both (excluded q m) 0 (q - m) (λ x. x ≡ q - m) (λ e. omega (arith, leb-true q m e)) (λ e. refl)

pub contribution_is : (F A E q m : ℕ) → contribution_of F A E q m ≡ m + up ((F - A) * (q - m)) E
contribution_is F A E q m =
    cond_both (excluded q m) m (m + additional F A E q m) (λ x. x ≡ m + up ((F - A) * (q - m)) E)
    (λ e.
    let none : q - m ≡ 0 = omega (arith, leb-true q m e) in
    omega (arith, ap (λ (x : ℕ). up ((F - A) * x) E) none, ap (λ (x : ℕ). up x E) (mul-zero (F - A)), up_of_zero E))
    (λ _.
    cond_both (ltb A F) (up ((F - A) * (q - m)) E) 0 (λ x. m + x ≡ m + up ((F - A) * (q - m)) E) (λ _. refl)
    (λ u.
    let none : F - A ≡ 0 = omega (arith, ltb-false A F u) in
    omega (arith, ap (λ (x : ℕ). up (x * (q - m)) E) none, ap (λ (x : ℕ). up x E) (zero-mul (q - m)), up_of_zero E)))

-- the part that is added to a minimum is no more than the product that is divided
pub added_fits : (F A E q m : ℕ) → F ≤ fund_limit → q ≤ figure_limit → up ((F - A) * (q - m)) E ≤ fund_limit * figure_limit
added_fits F A E q m f g = omega (arith, up_self ((F - A) * (q - m)) E, mul-le (F - A) (q - m) fund_limit figure_limit (omega arith) (omega arith))
