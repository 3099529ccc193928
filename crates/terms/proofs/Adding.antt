-- Sums: one more, equal and changed summands, one of them, longer sums, sums and multiples of summands. Assumes nothing.
use Rattle.std.proofs.Common.{◌≡◌, ℕ, zero, suc, ◌+◌, ◌-◌, ◌*◌, ◌<◌, ◌≤◌, ◌≢◌, sym, refl, ap, ◌∙◌, ⊎_elim, add-mul, mul-zero, mul-add, add-one, arith}
use Rattle.std.proofs.lemmas.Bool.{cases_eq}
use Rattle.terms.specs.Sums.{sum_to}

pub sum_to_none : (f : ℕ → ℕ) → sum_to 0 f ≡ 0
unfolding sum_to
sum_to_none f = refl

pub sum_to_suc : (n : ℕ) (f : ℕ → ℕ) → sum_to (suc n) f ≡ sum_to n f + f n
unfolding sum_to
sum_to_suc n f = refl

pub sum_to_more : (n : ℕ) (f : ℕ → ℕ) → sum_to (n + 1) f ≡ sum_to n f + f n
sum_to_more n f = rw add-one (sum_to_suc n f)

-- of a count that is another one more, or none
pub sum_to_next : (m n : ℕ) (f : ℕ → ℕ) → m ≡ n + 1 → sum_to m f ≡ sum_to n f + f n
sum_to_next m n f e = ap (λ k. sum_to k f) e ∙ sum_to_more n f

pub sum_to_empty : (n : ℕ) (f : ℕ → ℕ) → n ≡ 0 → sum_to n f ≡ 0
sum_to_empty n f e = ap (λ k. sum_to k f) e ∙ sum_to_none f

-- two summands that agree below n have one sum
pub sum_to_same : (n : ℕ) (f g : ℕ → ℕ) → ((k : ℕ) → k < n → f k ≡ g k) → sum_to n f ≡ sum_to n g
sum_to_same zero f g h = sum_to_none f ∙ sym (sum_to_none g)
sum_to_same (suc n) f g h =
    let a = sum_to_suc n f in
    let b = sum_to_suc n g in
    let d = sum_to_same n f g (λ k l. h k (omega arith)) in
    let e = h n (omega arith) in
    omega arith

-- two that agree but at i
pub sum_to_changed : (n : ℕ) (f g : ℕ → ℕ) (i : ℕ) → i < n → ((k : ℕ) → k < n → k ≢ i → f k ≡ g k) → sum_to n g + f i ≡ sum_to n f + g i
sum_to_changed zero f g i l h = omega arith
sum_to_changed (suc n) f g i l h =
    let a = sum_to_suc n f in
    let b = sum_to_suc n g in
    ⊎_elim
    (λ (e : i ≡ n).
    let d = sum_to_same n f g (λ k q. h k (omega arith) (omega arith)) in
    let p : f i ≡ f n = ap f e in
    let q : g i ≡ g n = ap g e in
    omega arith)
    (λ (ne : i ≡ n → ⊥).
    let d = sum_to_changed n f g i (omega arith) (λ k q. h k (omega arith)) in
    let e = h n (omega arith) (λ x. ne (sym x)) in
    omega arith)
    (cases_eq i n)

pub sum_to_zero : (n : ℕ) (f : ℕ → ℕ) → ((k : ℕ) → k < n → f k ≡ 0) → sum_to n f ≡ 0
sum_to_zero zero f h = sum_to_none f
sum_to_zero (suc n) f h =
    let a = sum_to_suc n f in
    let d = sum_to_zero n f (λ k l. h k (omega arith)) in
    let e = h n (omega arith) in
    omega arith

pub at_le_sum_to : (n : ℕ) (f : ℕ → ℕ) (i : ℕ) → i < n → f i ≤ sum_to n f
at_le_sum_to zero f i l = omega arith
at_le_sum_to (suc n) f i l =
    let a = sum_to_suc n f in
    ⊎_elim
    (λ (e : i ≡ n). let p : f i ≡ f n = ap f e in omega arith)
    (λ (ne : i ≡ n → ⊥). let d = at_le_sum_to n f i (omega arith) in omega arith)
    (cases_eq i n)

-- a longer sum is no smaller
pub sum_to_up : (k d : ℕ) (f : ℕ → ℕ) → sum_to k f ≤ sum_to (k + d) f
sum_to_up k zero f = let e : k + 0 ≡ k = omega arith in omega (arith, ap (λ (j : ℕ). sum_to j f) e)
sum_to_up k (suc d) f =
    let e : k + suc d ≡ suc (k + d) = omega arith in
    omega (arith, sum_to_up k d f, sum_to_suc (k + d) f, ap (λ (j : ℕ). sum_to j f) e)

pub sum_to_mono : (k n : ℕ) (f : ℕ → ℕ) → k ≤ n → sum_to k f ≤ sum_to n f
sum_to_mono k n f l = let e : k + (n - k) ≡ n = omega arith in omega (arith, sum_to_up k (n - k) f, ap (λ (j : ℕ). sum_to j f) e)

-- larger summands
pub sum_to_le : (n : ℕ) (f g : ℕ → ℕ) → ((k : ℕ) → k < n → f k ≤ g k) → sum_to n f ≤ sum_to n g
sum_to_le zero f g h = omega (arith, sum_to_none f, sum_to_none g)
sum_to_le (suc n) f g h = omega (arith, sum_to_suc n f, sum_to_suc n g, h n (omega arith), sum_to_le n f g (λ k l. h k (omega arith)))

pub sum_to_add : (n : ℕ) (f g : ℕ → ℕ) → sum_to n (λ k. f k + g k) ≡ sum_to n f + sum_to n g
sum_to_add zero f g = omega (arith, sum_to_none (λ k. f k + g k), sum_to_none f, sum_to_none g)
sum_to_add (suc n) f g = omega (arith, sum_to_suc n (λ k. f k + g k), sum_to_suc n f, sum_to_suc n g, sum_to_add n f g)

pub sum_to_mul : (n : ℕ) (f : ℕ → ℕ) (c : ℕ) → sum_to n (λ k. f k * c) ≡ sum_to n f * c
sum_to_mul zero f c = omega (arith, sum_to_none (λ k. f k * c), ap (λ (x : ℕ). x * c) (sum_to_none f))
sum_to_mul (suc n) f c = omega (arith, sum_to_suc n (λ k. f k * c), sum_to_mul n f c, add-mul (sum_to n f) (f n) c, ap (λ (x : ℕ). x * c) (sum_to_suc n f))

pub sum_to_mul_left : (n : ℕ) (f : ℕ → ℕ) (c : ℕ) → sum_to n (λ k. c * f k) ≡ c * sum_to n f
sum_to_mul_left zero f c = omega (arith, sum_to_none (λ k. c * f k), ap (λ (x : ℕ). c * x) (sum_to_none f), mul-zero c)
sum_to_mul_left (suc n) f c = omega (arith, sum_to_suc n (λ k. c * f k), sum_to_mul_left n f c, mul-add c (sum_to n f) (f n), ap (λ (x : ℕ). c * x) (sum_to_suc n f))

pub sum_to_const : (n c : ℕ) → sum_to n (λ _. c) ≡ n * c
sum_to_const zero c = omega (arith, sum_to_none (λ _. c))
sum_to_const (suc n) c = omega (arith, sum_to_suc n (λ _. c), sum_to_const n c, add-mul n 1 c)

-- what is taken from each summand is taken from the sum
pub sum_to_minus : (n : ℕ) (f g : ℕ → ℕ) → ((k : ℕ) → k < n → g k ≤ f k) → sum_to n (λ k. f k - g k) + sum_to n g ≡ sum_to n f
sum_to_minus n f g h = sym (sum_to_add n (λ k. f k - g k) g) ∙ sum_to_same n (λ k. (f k - g k) + g k) f (λ k l. omega (arith, h k l))
