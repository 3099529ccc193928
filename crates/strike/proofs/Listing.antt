-- The members that share, in order, and the place of each. Assumes nothing.
use Rattle.std.proofs.Common.{◌≡◌, ℕ, zero, suc, ◌+◌, ◌-◌, ◌<◌, ◌≤◌, Bool, true, false, cond, List, [], ◌∷◌, ◌++◌, map, length, get_or, sym, refl, ap, ◌∙◌, subst, ⊎_elim, add-one, arith}
use Rattle.std.proofs.lemmas.List.{append-nil, get_or_append_left, get_or-map, get_or_push, length_push}
use Rattle.std.proofs.lemmas.Bool.{cases_Bool, cases_eq, cond-true, cond-false}
use Rattle.terms.specs.Sums.{sum_to}
use Rattle.terms.proofs.Adding.{sum_to_more, sum_to_none}
use Rattle.strike.specs.Members.{sharers_to}

module _ (p : ℕ → Bool) where
  pub sharers_none : sharers_to 0 p ≡ []
  unfolding sharers_to
  sharers_none = refl

  sharers_suc : (n : ℕ) → sharers_to (suc n) p ≡ sharers_to n p ++ cond (p (suc n)) (suc n ∷ []) []
  unfolding sharers_to
  sharers_suc n = refl

  sharers_more : (n : ℕ) → sharers_to (n + 1) p ≡ sharers_to n p ++ cond (p (n + 1)) ((n + 1) ∷ []) []
  sharers_more n = rw add-one (sharers_suc n)

  pub sharers_yes : (n : ℕ) → p (n + 1) ≡ true → sharers_to (n + 1) p ≡ sharers_to n p ++ ((n + 1) ∷ [])
  sharers_yes n h = sharers_more n ∙ ap (λ (l : List ℕ). sharers_to n p ++ l) (cond-true (p (n + 1)) _ _ h)

  pub sharers_no : (n : ℕ) → p (n + 1) ≡ false → sharers_to (n + 1) p ≡ sharers_to n p
  sharers_no n h = sharers_more n ∙ ap (λ (l : List ℕ). sharers_to n p ++ l) (cond-false (p (n + 1)) _ _ h) ∙ append-nil (sharers_to n p)

  -- how many of the members 1 to n share
  abbrev pub count : ℕ → ℕ
  count n = length (sharers_to n p)

  pub count_none : count 0 ≡ 0
  count_none = ap length sharers_none

  pub count_yes : (n : ℕ) → p (n + 1) ≡ true → count (n + 1) ≡ count n + 1
  count_yes n h = ap length (sharers_yes n h) ∙ length_push (sharers_to n p) (n + 1)

  pub count_no : (n : ℕ) → p (n + 1) ≡ false → count (n + 1) ≡ count n
  count_no n h = ap length (sharers_no n h)

  pub count_few : (n : ℕ) → count n ≤ n
  count_few zero = omega (arith, count_none)
  count_few (suc n) =
      let e : suc n ≡ n + 1 = omega arith in
      ⊎_elim
      (λ (h : p (n + 1) ≡ true). omega (arith, count_few n, count_yes n h, ap count e))
      (λ (h : p (n + 1) ≡ false). omega (arith, count_few n, count_no n h, ap count e))
      (cases_Bool (p (n + 1)))

  -- the member after the first j stands, if it shares, at the place that they leave
  pub listed_at : (n j : ℕ) → j < n → p (j + 1) ≡ true → (count j < count n) × (get_or (sharers_to n p) (count j) 0 ≡ j + 1)
  listed_at zero j l h = absurd (omega arith)
  listed_at (suc n) j l h = subst (λ (k : ℕ). (count j < count k) × (get_or (sharers_to k p) (count j) 0 ≡ j + 1)) (sym (add_one' n)) (⊎_elim
      (λ (e : j ≡ n).
      let hn : p (n + 1) ≡ true = subst (λ (k : ℕ). p (k + 1) ≡ true) e h in
      subst (λ (k : ℕ). (count k < count (n + 1)) × (get_or (sharers_to (n + 1) p) (count k) 0 ≡ k + 1)) (sym e)
      (omega (arith, count_yes n hn), ap (λ (xs : List ℕ). get_or xs (count n) 0) (sharers_yes n hn) ∙ get_or_push (sharers_to n p) (n + 1) 0 (count n) refl))
      (λ (ne : j ≡ n → ⊥).
      let ih = listed_at n j (omega arith) h in
      ⊎_elim
      (λ (y : p (n + 1) ≡ true). (omega (arith, ih.0, count_yes n y), ap (λ (xs : List ℕ). get_or xs (count j) 0) (sharers_yes n y) ∙ get_or_append_left (sharers_to n p) ((n + 1) ∷ []) 0 (count j) ih.0 ∙ ih.1))
      (λ (z : p (n + 1) ≡ false). (omega (arith, ih.0, count_no n z), ap (λ (xs : List ℕ). get_or xs (count j) 0) (sharers_no n z) ∙ ih.1))
      (cases_Bool (p (n + 1))))
      (cases_eq j n))
    where
      add_one' : (k : ℕ) → suc k ≡ k + 1
      add_one' k = omega arith

  -- a column of theirs, at the place of a member
  pub column_at : (f : ℕ → ℕ) (n j : ℕ) → j < n → p (j + 1) ≡ true → get_or (map f (sharers_to n p)) (count j) 0 ≡ f (j + 1)
  column_at f n j l h = let at = listed_at n j l h in get_or-map f (sharers_to n p) (count j) 0 0 at.0 ∙ ap f at.1

  -- a sum over the members that share is the sum over their places
  pub by_places : (f : ℕ → ℕ) (n : ℕ) → sum_to n (λ k. cond (p (k + 1)) (f (count k)) 0) ≡ sum_to (count n) f
  by_places f zero = sum_to_none _ ∙ sym (sum_to_none f) ∙ ap (λ (k : ℕ). sum_to k f) (sym count_none)
  by_places f (suc n) =
      let e : suc n ≡ n + 1 = omega arith in
      let g : ℕ → ℕ = λ k. cond (p (k + 1)) (f (count k)) 0 in
      ap (λ (k : ℕ). sum_to k g) e ∙ sum_to_more n g ∙ ap (λ (x : ℕ). x + g n) (by_places f n) ∙ ⊎_elim
      (λ (h : p (n + 1) ≡ true). ap (λ (x : ℕ). sum_to (count n) f + x) (cond-true (p (n + 1)) (f (count n)) 0 h) ∙ sym (sum_to_more (count n) f) ∙ ap (λ (k : ℕ). sum_to k f) (sym (count_yes n h)))
      (λ (h : p (n + 1) ≡ false). ap (λ (x : ℕ). sum_to (count n) f + x) (cond-false (p (n + 1)) (f (count n)) 0 h) ∙ omega arith ∙ ap (λ (k : ℕ). sum_to k f) (sym (count_no n h)))
      (cases_Bool (p (n + 1)))
      ∙ ap (λ (k : ℕ). sum_to (count k) f) (sym e)

  -- somebody shares exactly where the list is not empty
  pub someone : (n : ℕ) → 1 ≤ count n → (m : ℕ) × ((1 ≤ m) × (m ≤ n) × (p m ≡ true))
  someone zero l = absurd (omega (arith, count_none))
  someone (suc n) l =
      let e : suc n ≡ n + 1 = omega arith in
      ⊎_elim
      (λ (h : p (n + 1) ≡ true). (n + 1, (omega arith, omega arith, h)))
      (λ (h : p (n + 1) ≡ false). let r = someone n (omega (arith, count_no n h, ap count e)) in (r.0, (r.1.0, omega (arith, r.1.1), r.1.2)))
      (cases_Bool (p (n + 1)))

  pub counted : (n m : ℕ) → 1 ≤ m → m ≤ n → p m ≡ true → 1 ≤ count n
  counted n m low le h =
      let at : m - 1 + 1 ≡ m = omega arith in
      omega (arith, (listed_at n (m - 1) (omega arith) (subst (λ (k : ℕ). p k ≡ true) (sym at) h)).0)
