-- The stakes of a loss by member, and the list that the split writes. Assumes nothing.
use Rattle.std.proofs.Common.{◌≡◌, ℕ, ◌+◌, ◌-◌, ◌<◌, eqb, List, map, sum, length, get_or, set, sym, ap, ◌∙◌, ⊎_elim, arith, length-set, get_or-set_other, get_or-set_same}
use Rattle.std.proofs.lemmas.List.{map-id}
use Rattle.std.proofs.lemmas.Bool.{cases_eq, cond-true, cond-false, eq-eqb, ne_eqb}
use Rattle.terms.specs.Limits.{all_members, last_member}
use Rattle.terms.specs.Sums.{sum_to}
use Rattle.terms.proofs.Adding.{sum_to_same}
use Rattle.share.specs.Split.{cut, part_at, part_by, weight_in}
use Rattle.share.proofs.Cuts.{sum_listed}
use Rattle.tables.specs.Book.{IsMember}
use Rattle.house.specs.Holders.{Holders, own_of, stake_of}
use Rattle.house.specs.Promises.{stakes_of}
use Rattle.house.specs.Rows.{Charged, amount_in}

-- the split looks at the weights below n alone
part_same : (T n n' : ℕ) (w w' : ℕ → ℕ) (k : ℕ) → n ≡ n' → ((j : ℕ) → j < n → w j ≡ w' j) → k < n → part_by T n w k ≡ part_by T n' w' k
part_same T n n' w w' k en h l =
    let a : sum_to n w ≡ sum_to n' w' = sum_to_same n w w' h ∙ ap (λ (i : ℕ). sum_to i w') en in
    let b : sum_to (k + 1) w ≡ sum_to (k + 1) w' = sum_to_same (k + 1) w w' (λ j q. h j (omega arith)) in
    let c : sum_to k w ≡ sum_to k w' = sum_to_same k w w' (λ j q. h j (omega arith)) in
    ap (λ (W : ℕ). cut T W (sum_to (k + 1) w) - cut T W (sum_to k w)) a
    ∙ ap (λ (v : ℕ). cut T (sum_to n' w') v - cut T (sum_to n' w') (sum_to k w)) b
    ∙ ap (λ (v : ℕ). cut T (sum_to n' w') (sum_to (k + 1) w') - cut T (sum_to n' w') v) c

module _ (x : Holders) (d : ℕ) (st : List ℕ) (long : length st ≡ all_members) (are : (m : ℕ) → IsMember m → amount_in st m ≡ stake_of x d m) where
  weight_at : (j : ℕ) → j < length st → weight_in st j ≡ stake_of x d (j + 1)
  weight_at j l =
      let e : j ≡ j + 1 - 1 = omega arith in
      ap (λ (i : ℕ). get_or st i 0) e ∙ are (j + 1) (omega arith, omega arith)

  pub weights_sum : sum st ≡ stakes_of x d
  weights_sum = sym (sum_listed st) ∙ sum_to_same (length st) (weight_in st) (λ j. stake_of x d (j + 1)) weight_at ∙ ap (λ (n : ℕ). sum_to n (λ j. stake_of x d (j + 1))) long

  -- the parts, with the defaulter's own charge in its place
  pub charged_is : (a own : ℕ) (parts : List ℕ) → IsMember d → length parts ≡ all_members → own ≡ own_of x d a → ((k : ℕ) → k < length st → get_or parts k 0 ≡ part_at (a - own) (map (λ w. w) st) k) → Charged x d a (set parts (d - 1) own)
  charged_is a own parts id lp eo h = record {
    long = length-set parts (d - 1) own ∙ lp;
    each = λ m im. ⊎_elim
        (λ (q : m ≡ d).
        let lt : d - 1 < length parts = omega (arith, lp, id.0, id.1) in
        ap (λ (i : ℕ). get_or (set parts (d - 1) own) (i - 1) 0) q ∙ get_or-set_same parts (d - 1) own 0 lt ∙ eo ∙ sym (cond-true (eqb m d) _ _ (eq-eqb m d q)))
        (λ (ne : m ≡ d → ⊥).
        let here : m - 1 < length st = omega (arith, long, im.0, im.1) in
        get_or-set_other parts (d - 1) (m - 1) own 0 (λ q. ne (omega (arith, im.0, id.0)))
        ∙ h (m - 1) here
        ∙ ap (λ ws. part_at (a - own) ws (m - 1)) (map-id st)
        ∙ part_same (a - own) (length st) last_member (weight_in st) (λ j. stake_of x d (j + 1)) (m - 1) long weight_at here
        ∙ ap (λ (o : ℕ). part_by (a - o) last_member (λ j. stake_of x d (j + 1)) (m - 1)) eo
        ∙ sym (cond-false (eqb m d) _ _ (ne_eqb m d ne)))
        (cases_eq m d);
  }
