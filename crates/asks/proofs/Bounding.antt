-- The bounds of asks, over any minimums, means, size and rounding step. Assumes nothing.
use Rattle.std.proofs.Common.{◌≡◌, ℕ, ◌+◌, ◌-◌, ◌*◌, ◌<◌, ◌≤◌, max, List, length, get_or, sym, refl, ap, ◌∙◌, subst, ⊎_elim, mul-le-mul_right, mul_comm, add-mul, lt_of_mul-lt-mul_right, mul-one, mul-add, zero-mul, le_of_mul-le-mul_right, arith}
use native.Mathlib.Nat.{mul-lt-mul_of_pos_left}
use Rattle.std.proofs.lemmas.List.FromFn.{get_or-map-range_with_len, length-map-range_with_len}
use Rattle.std.proofs.lemmas.Bool.{cases_lt}
use Rattle.terms.specs.Limits.{rounding_step}
use Rattle.terms.specs.Rounding.{rounded_to, up}
use Rattle.terms.specs.Sums.{sum_to}
use Rattle.terms.proofs.Adding.{sum_to_add, sum_to_const, sum_to_le, sum_to_mul, sum_to_mul_left, sum_to_same}
use Rattle.terms.proofs.Dividing.{rounded_high, rounded_low, rounded_mono, up_least, up_lower, up_of_zero, up_upper}
use Rattle.sizing.specs.Lists.{sum_of}
use Rattle.asks.specs.Steps.{above_of, above_sum, ask_at, asks_of, contribution_of, quota_at}
use Rattle.asks.specs.Bounds.{AsksWithinBounds, NeverAskedMore, WithinBounds, most_asked}
use Rattle.asks.proofs.OneMember.{above_is, contribution_is, quota_at_most_mean}

module _ (F n R A E : ℕ) (mn mean : ℕ → ℕ) (eR : R ≡ sum_to n mean) (eA : A ≡ sum_to n mn) (eE : E ≡ sum_to n (λ k. up (F * mean k) R - mn k)) (small : F ≤ R) where
  -- the quotas add to the size at least
  quota_sum : F ≤ sum_to n (λ k. up (F * mean k) R)
  quota_sum = ⊎_elim
      (λ (p : 0 < R).
      let each = sum_to_le n (λ k. F * mean k) (λ k. up (F * mean k) R * R) (λ k l. up_lower (F * mean k) R p) in
      let left : sum_to n (λ k. F * mean k) ≡ F * R = sum_to_mul_left n mean F ∙ ap (λ (x : ℕ). F * x) (sym eR) in
      let right = sum_to_mul n (λ k. up (F * mean k) R) R in
      le_of_mul-le-mul_right {m = F} {n = sum_to n (λ k. up (F * mean k) R)} {k = R} (omega (arith, each, left, right)) p)
      (λ (z : R ≤ 0). omega arith)
      (cases_lt 0 R)

  -- what they have above the minimums is enough
  above_enough : F ≤ A + E
  above_enough =
      omega (arith, quota_sum, sum_to_le n (λ k. up (F * mean k) R) (λ k. mn k + (up (F * mean k) R - mn k)) (λ k l. omega arith), sum_to_add n mn (λ k. up (F * mean k) R - mn k))

  added : ℕ → ℕ
  added k = up ((F - A) * (up (F * mean k) R - mn k)) E

  added_at_most : A < F → (k : ℕ) → added k ≤ up (F * mean k) R - mn k
  unfolding added
  added_at_most over k =
      let y = up (F * mean k) R - mn k in
      up_least ((F - A) * y) E y (omega (arith, above_enough))
      (omega (arith, mul-le-mul_right {m = F - A} {n = E} y (omega (arith, above_enough)), mul_comm y E))

  added_low : A < F → F - A ≤ sum_to n added
  unfolding added
  added_low over =
      let p : 0 < E = omega (arith, above_enough) in
      let each = sum_to_le n (λ k. (F - A) * (up (F * mean k) R - mn k)) (λ k. added k * E) (λ k l. up_lower ((F - A) * (up (F * mean k) R - mn k)) E p) in
      let left : sum_to n (λ k. (F - A) * (up (F * mean k) R - mn k)) ≡ (F - A) * E = sum_to_mul_left n (λ k. up (F * mean k) R - mn k) (F - A) ∙ ap (λ (x : ℕ). (F - A) * x) (sym eE) in
      let right = sum_to_mul n added E in
      le_of_mul-le-mul_right {m = F - A} {n = sum_to n added} {k = E} (omega (arith, each, left, right)) p

  added_high : A < F → 0 < n → sum_to n added < (F - A) + n
  unfolding added
  added_high over some =
      let p : 0 < E = omega (arith, above_enough) in
      let each = sum_to_le n (λ k. added k * E) (λ k. (F - A) * (up (F * mean k) R - mn k) + (E - 1)) (λ k l. omega (arith, up_upper ((F - A) * (up (F * mean k) R - mn k)) E p)) in
      let apart = sum_to_add n (λ k. (F - A) * (up (F * mean k) R - mn k)) (λ k. E - 1) in
      let left : sum_to n (λ k. (F - A) * (up (F * mean k) R - mn k)) ≡ (F - A) * E = sum_to_mul_left n (λ k. up (F * mean k) R - mn k) (F - A) ∙ ap (λ (x : ℕ). (F - A) * x) (sym eE) in
      let rest = sum_to_const n (E - 1) in
      let right = sum_to_mul n added E in
      let less = mul-lt-mul_of_pos_left {m = E - 1} {n = E} {k = n} (omega arith) some in
      lt_of_mul-lt-mul_right E {m = sum_to n added} {n = (F - A) + n} (omega (arith, each, apart, left, rest, right, less, add-mul (F - A) n E))

  due : ℕ → ℕ
  due k = contribution_of F A E (up (F * mean k) R) (mn k)

  due_is : (k : ℕ) → due k ≡ mn k + added k
  unfolding due added
  due_is k = contribution_is F A E (up (F * mean k) R) (mn k)

  due_under : F ≤ A → (k : ℕ) → due k ≡ mn k
  unfolding added
  due_under under k =
      let y = up (F * mean k) R - mn k in
      let none : F - A ≡ 0 = omega arith in
      omega (arith, due_is k, ap (λ (x : ℕ). up (x * y) E) none, ap (λ (x : ℕ). up x E) (zero-mul y), up_of_zero E)

  due_low : (k : ℕ) → mn k ≤ due k
  due_low k = omega (arith, due_is k)

  due_high : (k : ℕ) → due k ≤ max (mn k) (mean k)
  due_high k =
      let q = quota_at_most_mean F R (mean k) small in
      ⊎_elim (λ (o : A < F). omega (arith, due_is k, added_at_most o k, q)) (λ (u : F ≤ A). omega (arith, due_under u k)) (cases_lt A F)

  due_sum : 0 < n → (max F A ≤ sum_to n due) × (sum_to n due < max F A + n)
  due_sum some = ⊎_elim
      (λ (o : A < F).
      let e : sum_to n due ≡ A + sum_to n added = sum_to_same n due (λ k. mn k + added k) (λ k l. due_is k) ∙ sum_to_add n mn added ∙ ap (λ (x : ℕ). x + sum_to n added) (sym eA) in
      (omega (arith, e, added_low o), omega (arith, e, added_high o some)))
      (λ (u : F ≤ A).
      let e : sum_to n due ≡ A = sum_to_same n due mn (λ k l. due_under u k) ∙ sym eA in
      (omega (arith, e), omega (arith, e)))
      (cases_lt A F)

  module _ (step : ℕ) (pos : 0 < step) where
    ask_low : (k : ℕ) → mn k ≤ rounded_to step (due k)
    ask_low k = omega (arith, due_low k, rounded_low step (due k) pos)

    ask_high : (k : ℕ) → rounded_to step (due k) ≤ rounded_to step (max (mn k) (mean k))
    ask_high k = rounded_mono step (due k) (max (mn k) (mean k)) pos (due_high k)

    ask_sum_low : 0 < n → max F A ≤ sum_to n (λ k. rounded_to step (due k))
    ask_sum_low some = omega (arith, (due_sum some).0, sum_to_le n due (λ k. rounded_to step (due k)) (λ k l. rounded_low step (due k) pos))

    ask_sum_high : 0 < n → sum_to n (λ k. rounded_to step (due k)) < max F A + step * n
    ask_sum_high some =
        let high = sum_to_le n (λ k. rounded_to step (due k)) (λ k. due k + (step - 1)) (λ k l. omega (arith, rounded_high step (due k) pos)) in
        let apart = sum_to_add n due (λ k. step - 1) in
        let whole : n * (step - 1) + n ≡ step * n = sym (ap (λ (x : ℕ). n * (step - 1) + x) (mul-one n)) ∙ sym (mul-add n (step - 1) 1) ∙ ap (λ (x : ℕ). n * x) (omega arith) ∙ mul_comm n step in
        omega (arith, (due_sum some).1, high, apart, sum_to_const n (step - 1), whole)

-- the sums over lists as sums over places
module _ (F : ℕ) (mins means : List ℕ) (alike : length mins ≡ length means) where
  mn : ℕ → ℕ
  mn k = get_or mins k 0

  mean : ℕ → ℕ
  mean k = get_or means k 0

  least_is : sum_of mins ≡ sum_to (length means) mn
  unfolding mn
  least_is = ap (λ (n : ℕ). sum_to n mn) alike

  above_sum_is : above_sum F mins means ≡ sum_to (length means) (λ k. up (F * mean k) (sum_of means) - mn k)
  unfolding mn mean
  above_sum_is = sum_to_same (length means) (λ k. above_of (quota_at F means k) (mn k)) (λ k. up (F * mean k) (sum_of means) - mn k) (λ k l. above_is (quota_at F means k) (mn k))

  ask_at_most : F ≤ sum_of means → (k : ℕ) → ask_at F mins means k ≤ most_asked (get_or mins k 0) (get_or means k 0)
  unfolding mn mean due
  ask_at_most small k = ask_high F (length means) (sum_of means) (sum_of mins) (above_sum F mins means) mn mean refl least_is above_sum_is small rounding_step (omega arith) k

  module _ (some : 1 ≤ length means) (small : F ≤ sum_of means) where
    asks_at : (k : ℕ) → k < length means → get_or (asks_of F mins means) k 0 ≡ ask_at F mins means k
    asks_at k l = get_or-map-range_with_len (ask_at F mins means) 0 (length means) k k 0 l (omega arith)

    asks_sum : sum_of (asks_of F mins means) ≡ sum_to (length means) (ask_at F mins means)
    asks_sum =
        ap (λ (n : ℕ). sum_to n (λ k. get_or (asks_of F mins means) k 0)) (length-map-range_with_len (ask_at F mins means) 0 (length means))
        ∙ sum_to_same (length means) (λ k. get_or (asks_of F mins means) k 0) (ask_at F mins means) asks_at

    within : WithinBounds F mins means (asks_of F mins means)
    unfolding mn mean due
    within = record {
      least = λ k l. omega (arith, asks_at k l, ask_low F (length means) (sum_of means) (sum_of mins) (above_sum F mins means) mn mean refl least_is above_sum_is small rounding_step (omega arith) k);
      most = λ k l. subst (λ (x : ℕ). x ≤ most_asked (get_or mins k 0) (get_or means k 0)) (sym (asks_at k l)) (ask_at_most small k);
      enough = omega (arith, asks_sum, ask_sum_low F (length means) (sum_of means) (sum_of mins) (above_sum F mins means) mn mean refl least_is above_sum_is small rounding_step (omega arith) some);
      near = omega (arith, asks_sum, ask_sum_high F (length means) (sum_of means) (sum_of mins) (above_sum F mins means) mn mean refl least_is above_sum_is small rounding_step (omega arith) some);
    }

pub bounds_kept : AsksWithinBounds
bounds_kept F mins means alike some small = within F mins means alike some small

pub never_more : (minimum mean : ℕ) → NeverAskedMore minimum mean (most_asked minimum mean)
never_more minimum mean F mins means k alike small l em en =
    subst (λ (x : ℕ). ask_at F mins means k ≤ most_asked x mean) em (subst (λ (x : ℕ). ask_at F mins means k ≤ most_asked (get_or mins k 0) x) en (ask_at_most F mins means alike small k))
