-- What the two rules mark is the first largest, and among the rest the first largest. Assumes nothing.
use Rattle.std.proofs.Common.{◌≡◌, ℕ, ◌<◌, ◌≤◌, Bool, true, cond, ◌&&◌, ◌||◌, eqb, List, [], ◌∷◌, length, get_or, sym, ap, subst, inl, inr, ⊎_elim, arith}
use Rattle.std.proofs.lemmas.Bool.{and_from, and_parts, cases_eq, cases_lt, cond_both, eq-eqb, eqb-false, eqb-true, lt-ltb, ltb-true, or_cases, or_left, or_right}
use Rattle.sizing.specs.Places.{first, is_in_list, pick, second}
use Rattle.sizing.specs.Firsts.{Any, FirstLargestStands, FirstLargest, Rest}
use Rattle.sizing.specs.Picks.{But, first_is, from_start}

-- two first largest of the same places are one
same_place : (means : List ℕ) (P Q : ℕ → Type 0) (a b : ℕ) → ((k : ℕ) → k < length means → P k → Q k) → ((k : ℕ) → k < length means → Q k → P k) → FirstLargest means P a → FirstLargest means Q b → a ≡ b
same_place means P Q a b there back x y =
    let up : get_or means b 0 ≤ get_or means a 0 = x.largest b y.within (back b y.within y.one_of_them) in
    let down : get_or means a 0 ≤ get_or means b 0 = y.largest a x.within (there a x.within x.one_of_them) in
    ⊎_elim
    (λ (e : a ≡ b). e)
    (λ (ne : a ≡ b → ⊥). ⊎_elim
    (λ (l : a < b). absurd (omega (arith, up, y.before a l (there a x.within x.one_of_them))))
    (λ (l : b ≤ a). absurd (omega (arith, down, x.before b (omega arith) (back b y.within y.one_of_them))))
    (cases_lt a b))
    (cases_eq a b)

module _ (means : List ℕ) where
  first_only : (k : ℕ) → FirstLargest means Any k → k ≡ first means
  first_only k x = same_place means Any Any k (first means) (λ j l p. p) (λ j l p. p) x (first_is means (omega (arith, x.within)))

  -- the rest are the places other than the first largest
  rest_but : 0 < length means → (k : ℕ) → Rest means k → But (first means) k
  rest_but some k r e = r (subst (FirstLargest means Any) (sym e) (first_is means some))

  but_rest : (k : ℕ) → But (first means) k → Rest means k
  but_rest k ne x = ne (first_only k x)

  second_but : 1 < length means → FirstLargest means (But (first means)) (second means)
  second_but more =
      cond_both (eqb (first means) 0) 1 0 (λ b. FirstLargest means (But (first means)) (pick (first means) b (get_or means b 0) 0 means))
      (λ t. from_start means (first means) 1 more (λ e. omega (arith, eqb-true (first means) 0 t)) (λ k l ne. ne (omega (arith, eqb-true (first means) 0 t))))
      (λ t. from_start means (first means) 0 (omega arith) (λ e. eqb-false (first means) 0 t (sym e)) (λ k l ne. omega arith))

  second_is : 1 < length means → FirstLargest means (Rest means) (second means)
  second_is more =
      let r = second_but more in
      let some : 0 < length means = omega arith in
      record { within = r.within; one_of_them = but_rest (second means) r.one_of_them; largest = λ k l p. r.largest k l (rest_but some k p); before = λ k l p. r.before k l (rest_but some k p) }

  second_only : (k : ℕ) → FirstLargest means (Rest means) k → k ≡ second means
  second_only k x =
      let some : 0 < length means = omega (arith, x.within) in
      let ne = rest_but some k x.one_of_them in
      let more : 1 < length means = omega (arith, x.within, (first_is means some).within) in
      same_place means (Rest means) (But (first means)) k (second means) (λ j l p. rest_but some j p) (λ j l p. but_rest j p) x (second_but more)

-- a list of one has no second place
second_alone : (means : List ℕ) → length means ≡ 1 → second means ≡ 1
second_alone [] e = absurd (omega arith)
second_alone (x ∷ []) e =
    let zero_first : first (x ∷ []) ≡ 0 = omega (arith, (first_is (x ∷ []) (omega arith)).within) in
    ap (λ (f : ℕ). pick f (cond (eqb f 0) 1 0) (get_or (x ∷ []) (cond (eqb f 0) 1 0) 0) 0 (x ∷ [])) zero_first
second_alone (x ∷ y ∷ xs) e = absurd (omega arith)

in_list : (means : List ℕ) (k : ℕ) (b : Bool) → (is_in_list means k && b) ≡ true → (k < length means) × (b ≡ true)
in_list means k b h = let p = and_parts (is_in_list means k) b h in (ltb-true k (length means) p.0, p.1)

pub first_largest_marked : FirstLargestStands
first_largest_marked = record {
  one = λ means k h.
      let p = in_list means k (eqb k (first means)) h in
      subst (FirstLargest means Any) (sym (eqb-true k (first means) p.1)) (first_is means (omega (arith, p.0)));
  one_back = λ means k x. and_from (is_in_list means k) (eqb k (first means)) (lt-ltb k (length means) x.within) (eq-eqb k (first means) (first_only means k x));
  two = λ means k h.
      let p = in_list means k (eqb k (first means) || eqb k (second means)) h in
      ⊎_elim
      (λ e. inl (subst (FirstLargest means Any) (sym (eqb-true k (first means) e)) (first_is means (omega (arith, p.0)))))
      (λ e.
      let is : k ≡ second means = eqb-true k (second means) e in
      let more : 1 < length means = ⊎_elim (λ (one : length means ≡ 1). absurd (omega (arith, is, second_alone means one, p.0))) (λ (ne : length means ≡ 1 → ⊥). omega (arith, p.0)) (cases_eq (length means) 1) in
      inr (subst (FirstLargest means (Rest means)) (sym is) (second_is means more)))
      (or_cases (eqb k (first means)) (eqb k (second means)) p.1);
  two_back = λ means k x. ⊎_elim
      (λ y. and_from (is_in_list means k) (eqb k (first means) || eqb k (second means)) (lt-ltb k (length means) y.within) (or_left (eqb k (first means)) (eqb k (second means)) (eq-eqb k (first means) (first_only means k y))))
      (λ y. and_from (is_in_list means k) (eqb k (first means) || eqb k (second means)) (lt-ltb k (length means) y.within) (or_right (eqb k (first means)) (eqb k (second means)) (eq-eqb k (second means) (second_only means k y))))
      x;
}
