-- The proportional split: its laws, over any weights, and the turns of its loops. Assumes nothing.
use Rattle.std.proofs.Common.{◌≡◌, ℕ, zero, suc, ◌+◌, ◌-◌, ◌*◌, ◌<◌, ◌≤◌, List, map, length, get_or, take, sum, sum_by, add-one, sym, ap, ◌∙◌, subst, mul-le-mul_right, mul_comm, add-mul, mul-le-mul_left, mul-add, div-mul-le_self, arith}
use native.Mathlib.Nat.{div-zero, lt-div-mul-add}
use Rattle.std.proofs.lemmas.Nat.{le-div, div_below}
use Rattle.std.proofs.lemmas.List.{length-map, take_all, take-map}
use Rattle.std.proofs.lemmas.List.Sums.{sum-map, sum_by_more}
use Rattle.terms.specs.Sums.{sum_to}
use Rattle.share.specs.Split.{SplitInProportion, cut, part_at, part_by, weight_in}
use Rattle.terms.proofs.Adding.{sum_to_more, sum_to_none, sum_to_suc}

-- the cut of a larger weight is no smaller
pub cut_mono : (T W x y : ℕ) → x ≤ y → cut T W x ≤ cut T W y
cut_mono T zero x y l = omega (arith, div-zero (T * x), div-zero (T * y))
cut_mono T (suc w) x y l = le-div (cut T (suc w) x) (T * y) (suc w) (omega arith) (omega (arith, div-mul-le_self (T * x) (suc w), mul-le-mul_left {m = x} {n = y} T l))

-- a cut of y more grows by no more than y
pub cut_step : (T W x y : ℕ) → T ≤ W → cut T W (x + y) - cut T W x ≤ y
cut_step T zero x y l = omega (arith, div-zero (T * (x + y)))
cut_step T (suc w) x y l =
    let q = cut T (suc w) x in
    let a : T * x < q * suc w + suc w = lt-div-mul-add {a = T * x} {b = suc w} (omega arith) in
    let b : T * y ≤ y * suc w = omega (arith, mul-le-mul_right {m = T} {n = suc w} y l, mul_comm y (suc w)) in
    let d : cut T (suc w) (x + y) < q + y + 1 = div_below (T * (x + y)) (suc w) (q + y + 1) (omega arith) (omega (arith, a, b, mul-add T x y, add-mul (q + y) 1 (suc w), add-mul q y (suc w))) in
    omega arith

-- a part is no more than its weight
pub part_le : (T n : ℕ) (w : ℕ → ℕ) (k : ℕ) → T ≤ sum_to n w → part_by T n w k ≤ w k
part_le T n w k l =
    let e = sum_to_more k w in
    omega (arith, cut_step T (sum_to n w) (sum_to k w) (w k) l, ap (λ (x : ℕ). cut T (sum_to n w) x) e)

pub cut_none : (T W : ℕ) → cut T W 0 ≡ 0
cut_none T zero = div-zero (T * 0)
cut_none T (suc w) = omega (arith, div_below (T * 0) (suc w) 1 (omega arith) (omega arith))

-- the parts of the first k weights add to the cut of their sum
parts_sum : (T n : ℕ) (w : ℕ → ℕ) (k : ℕ) → sum_to k (part_by T n w) ≡ cut T (sum_to n w) (sum_to k w)
parts_sum T n w zero = sum_to_none (part_by T n w) ∙ sym (ap (λ (x : ℕ). cut T (sum_to n w) x) (sum_to_none w) ∙ cut_none T (sum_to n w))
parts_sum T n w (suc k) =
    let e : suc k ≡ k + 1 = omega arith in
    let up : sum_to k w ≤ sum_to (k + 1) w = omega (arith, sum_to_more k w) in
    omega (arith, sum_to_suc k (part_by T n w), parts_sum T n w k, cut_mono T (sum_to n w) (sum_to k w) (sum_to (k + 1) w) up, ap (λ (x : ℕ). cut T (sum_to n w) (sum_to x w)) e)

-- the cut of the whole is the total
cut_whole : (T W : ℕ) → T ≤ W → cut T W W ≡ T
cut_whole T zero l = div-zero (T * 0) ∙ omega arith
cut_whole T (suc w) l =
    let lo : T ≤ cut T (suc w) (suc w) = le-div T (T * suc w) (suc w) (omega arith) (omega arith) in
    let hi : cut T (suc w) (suc w) < T + 1 = div_below (T * suc w) (suc w) (T + 1) (omega arith) (omega (arith, add-mul T 1 (suc w))) in
    omega arith

pub parts_all : (T n : ℕ) (w : ℕ → ℕ) → T ≤ sum_to n w → sum_to n (part_by T n w) ≡ T
parts_all T n w l = parts_sum T n w n ∙ cut_whole T (sum_to n w) l

-- a part and T × w / W differ by less than 1
module _ (T W x y : ℕ) (some : 0 < W) where
  q1_low : cut T W (x + y) * W ≤ T * (x + y)
  q1_low = div-mul-le_self (T * (x + y)) W

  q1_high : T * (x + y) < cut T W (x + y) * W + W
  q1_high = lt-div-mul-add {a = T * (x + y)} {b = W} some

  q0_low : cut T W x * W ≤ T * x
  q0_low = div-mul-le_self (T * x) W

  q0_high : T * x < cut T W x * W + W
  q0_high = lt-div-mul-add {a = T * x} {b = W} some

  apart : (cut T W (x + y) - cut T W x) * W + cut T W x * W ≡ cut T W (x + y) * W
  apart =
      let e : (cut T W (x + y) - cut T W x) + cut T W x ≡ cut T W (x + y) = omega (arith, cut_mono T W x (x + y) (omega arith)) in
      sym (add-mul (cut T W (x + y) - cut T W x) (cut T W x) W) ∙ ap (λ (q : ℕ). q * W) e

  cut_under : (cut T W (x + y) - cut T W x) * W < T * y + W
  cut_under = omega (arith, q1_low, q0_high, apart, mul-add T x y)

  cut_over : T * y < (cut T W (x + y) - cut T W x) * W + W
  cut_over = omega (arith, q1_high, q0_low, apart, mul-add T x y)

module _ (T n : ℕ) (w : ℕ → ℕ) (k : ℕ) (some : 0 < sum_to n w) where
  pub part_under : part_by T n w k * sum_to n w < T * w k + sum_to n w
  part_under = subst (λ (z : ℕ). (cut T (sum_to n w) z - cut T (sum_to n w) (sum_to k w)) * sum_to n w < T * w k + sum_to n w) (sym (sum_to_more k w)) (cut_under T (sum_to n w) (sum_to k w) (w k) some)

  pub part_over : T * w k < part_by T n w k * sum_to n w + sum_to n w
  part_over = subst (λ (z : ℕ). T * w k < (cut T (sum_to n w) z - cut T (sum_to n w) (sum_to k w)) * sum_to n w + sum_to n w) (sym (sum_to_more k w)) (cut_over T (sum_to n w) (sum_to k w) (w k) some)

-- where nothing has a weight, nothing falls to anybody
pub part_idle : (T n : ℕ) (w : ℕ → ℕ) (k : ℕ) → sum_to n w ≡ 0 → part_by T n w k ≡ 0
part_idle T n w k e =
    ap (λ (W : ℕ). cut T W (sum_to (k + 1) w) - cut T W (sum_to k w)) e ∙ omega (arith, div-zero (T * sum_to (k + 1) w))

pub in_proportion : SplitInProportion
in_proportion T n w l = record {
  all = parts_all T n w l;
  within = λ k. part_le T n w k l;
  under = λ k some. part_under T n w k some;
  over = λ k some. part_over T n w k some;
  idle = λ k e. part_idle T n w k e;
}

-- the sum of the first weights of a list, and of all
sum_taken : (ws : List ℕ) (k : ℕ) → k ≤ length ws → sum_to k (weight_in ws) ≡ sum (take k ws)
sum_taken ws zero l = sum_to_none (weight_in ws)
sum_taken ws (suc k) l =
    let more : sum (take (k + 1) ws) ≡ sum (take k ws) + get_or ws k 0 = sum_by_more (λ w. w) ws k 0 (omega arith) in
    omega (arith, sum_to_suc k (weight_in ws), sum_taken ws k (omega arith), more, ap (λ n. sum (take n ws)) (add-one k))

pub sum_listed : (ws : List ℕ) → sum_to (length ws) (weight_in ws) ≡ sum ws
sum_listed ws = sum_taken ws (length ws) (omega arith) ∙ ap sum (take_all (length ws) ws (omega arith))

module _ {X : Type 0} (f : X → ℕ) (xs : List X) where
  sum_front : (k : ℕ) → k ≤ length xs → sum_to k (weight_in (map f xs)) ≡ sum_by f (take k xs)
  sum_front k l = sum_taken (map f xs) k (omega (arith, length-map xs f)) ∙ ap sum (take-map f k xs) ∙ sum-map f (take k xs)

  -- a part, by the sums that the loop has
  pub part_is : (T i : ℕ) → i < length xs → part_at T (map f xs) i ≡ cut T (sum_by f xs) (sum_by f (take (i + 1) xs)) - cut T (sum_by f xs) (sum_by f (take i xs))
  part_is T i l =
      ap (λ W. cut T W (sum_to (i + 1) (weight_in (map f xs))) - cut T W (sum_to i (weight_in (map f xs)))) (sum_listed (map f xs) ∙ sum-map f xs)
      ∙ ap (λ s. cut T (sum_by f xs) s - cut T (sum_by f xs) (sum_to i (weight_in (map f xs)))) (sum_front (i + 1) (omega arith))
      ∙ ap (λ s. cut T (sum_by f xs) (sum_by f (take (i + 1) xs)) - cut T (sum_by f xs) s) (sum_front i (omega arith))
