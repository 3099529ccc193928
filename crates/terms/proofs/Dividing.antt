-- Division and amounts that are rounded up, over any divisor and any step. Assumes nothing.
use Rattle.std.proofs.Common.{◌≡◌, ℕ, zero, suc, ◌+◌, ◌-◌, ◌*◌, ◌/◌, ◌%◌, ◌<◌, ◌≤◌, min, ⊎_elim, mul-le-mul_right, mod-lt, mul_comm, add-mul, mul-le-mul_left, div-add-mod', div-mul-le_self, arith}
use native.Mathlib.Nat.{div-eq_of_lt-le, div-zero, lt-div-mul-add}
use Rattle.std.proofs.lemmas.Nat.{div_below}
use Rattle.std.proofs.lemmas.Bool.{cases_lt}
use Rattle.terms.specs.Rounding.{rounded_to, up}

-- it is enough
pub up_lower : (a b : ℕ) → 0 < b → a ≤ up a b * b
up_lower a b p = omega (arith, lt-div-mul-add {a = a + (b - 1)} {b = b} p)

-- and no more than it has to be
pub up_upper : (a b : ℕ) → 0 < b → up a b * b < a + b
up_upper a b p = omega (arith, div-mul-le_self (a + (b - 1)) b)

pub up_least : (a b c : ℕ) → 0 < b → a ≤ c * b → up a b ≤ c
up_least a b c p h = omega (arith, div_below (a + (b - 1)) b (c + 1) p (omega (arith, add-mul c 1 b)))

pub up_by_zero : (a : ℕ) → up a 0 ≡ 0
up_by_zero a = div-zero (a + (0 - 1))

pub up_of_zero : (b : ℕ) → up 0 b ≡ 0
up_of_zero zero = up_by_zero 0
up_of_zero (suc b) = omega (arith, up_least 0 (suc b) 0 (omega arith) (omega arith))

-- it is no more than what is divided
pub up_self : (a b : ℕ) → up a b ≤ a
up_self a zero = omega (arith, up_by_zero a)
up_self a (suc b) = up_least a (suc b) a (omega arith) (omega (arith, mul-le-mul_left {m = 1} {n = suc b} a (omega arith)))

-- a sum of b numbers up to c has a mean up to c
pub up_mean : (a b c : ℕ) → a ≤ b * c → up a b ≤ c
up_mean a zero c h = omega (arith, up_by_zero a)
up_mean a (suc b) c h = up_least a (suc b) c (omega arith) (omega (arith, mul_comm (suc b) c))

-- the quotient, and one more where something is left
pub up_is : (a b : ℕ) → 0 < b → a / b + min 1 (a % b) ≡ up a b
up_is a b p =
    let parts = div-add-mod' a b in
    let less = mod-lt a p in
    ⊎_elim
    (λ (some : 0 < a % b).
    let q : up a b ≡ a / b + 1 = div-eq_of_lt-le b (omega (arith, parts, add-mul (a / b) 1 b)) (omega (arith, parts, less, add-mul (a / b + 1) 1 b, add-mul (a / b) 1 b)) in
    omega (arith, q))
    (λ (none : a % b ≤ 0).
    let q : up a b ≡ a / b = div-eq_of_lt-le b (omega (arith, parts)) (omega (arith, parts, add-mul (a / b) 1 b)) in
    omega (arith, q))
    (cases_lt 0 (a % b))

pub rounded_low : (step a : ℕ) → 0 < step → a ≤ rounded_to step a
rounded_low step a p = up_lower a step p

pub rounded_high : (step a : ℕ) → 0 < step → rounded_to step a < a + step
rounded_high step a p = up_upper a step p

pub rounded_mono : (step a b : ℕ) → 0 < step → a ≤ b → rounded_to step a ≤ rounded_to step b
rounded_mono step a b p h = mul-le-mul_right {m = up a step} {n = up b step} step (up_least a step (up b step) p (omega (arith, up_lower b step p)))
