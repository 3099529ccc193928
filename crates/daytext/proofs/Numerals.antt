-- Numbers are read from the digits that std writes of them. Assumes nothing.
use Rattle.std.proofs.Common.{◌≡◌, ℕ, zero, suc, ◌+◌, ◌-◌, ◌*◌, ◌/◌, ◌%◌, ◌^◌, ◌<◌, ◌≤◌, Bool, true, false, cond, ◌&&◌, ◌⊎◌, List, [], ◌∷◌, ◌++◌, length, get_or, Some, None, Option, sym, refl, ap, ◌∙◌, subst, inl, inr, ⊎_elim, rules, arith}
use Rattle.std.specs.Char.{is_ascii_digit}
use Rattle.std.specs.Fmt as Fmt
use Rattle.std.specs.Int.Digits.{AllBelowBase, digits_of, number_from_digits}
use Rattle.std.specs.Str.{all_ascii_digits}
use Rattle.std.proofs.lemmas.Bool.{le-leb, lt-leb, ne_eqb, eq-eqb, cases_Bool, cases_eq, cases_lt}
use Rattle.std.proofs.lemmas.Fmt.{decimal_digit, decimal-digits_of, decimal-digits_value, decimal_nonempty, digits_decimal, digits_value-decimal, first_decimal, length-decimal-le}
use Rattle.std.proofs.lemmas.Int.Digits.{digits_of_step, length-digits_of-le, length-digits_of_step, number_after_ge, number_push}
use Rattle.std.proofs.lemmas.List.{get_or_append_left, length-map, length_push}
use Rattle.std.proofs.lemmas.Str.Parse.{IsNumeralModel, digits_value_short, numerals_by_fold}
use Rattle.daytext.specs.Text.{digits, plain_of, decimal, longest, Short}
use native.Mathlib.Nat.{pow-le-pow_right}

-- nothing is never something
pub none_some : {A B : Type 0} {a : A} → ◌≡◌ {A = Option A} None (Some a) → B
none_some p = cc

-- so many digits make a number as small
pub power_small : (n i : ℕ) → n < 10 ^ i → i ≤ longest → n < 10 ^ longest
power_small n i h k = omega (arith, pow-le-pow_right {n = 10} (omega arith) k)

-- std writes a number's digits so too
pub std_decimal : (n : ℕ) → n < 2 ^ 64 → Fmt.decimal n ≡ decimal n
std_decimal zero h = decimal_digit 0 (omega arith)
std_decimal (suc n) h = decimal-digits_of (suc n) (omega arith) h

-- how many digits a number has
pub decimal_long : (n : ℕ) → n < 2 ^ 64 → length (decimal n) ≤ 20
decimal_long n h = rw (← std_decimal n h) (length-decimal-le 20 n (omega arith) (omega arith) h)

-- the number that bytes make, read on from n as if each were a digit
abbrev read_on : ℕ → List ℕ → ℕ
read_on n [] = n
read_on n (c ∷ cs) = read_on (n * 10 + (c - 48)) cs

own : IsNumeralModel (λ ds. all_ascii_digits ds ≡ true) (read_on 0)
own = numerals_by_fold _ (search rules) read_on (search rules)

-- digits make that number, and other bytes none
along : (t r : Bool) (o : Option ℕ) (n : ℕ) → o ≡ cond r (Some n) None → cond t o None ≡ cond (t && r) (Some n) None
along true r o n h = h
along false r o n h = refl

digits_are : (n : ℕ) (bs : List ℕ) → digits n bs ≡ cond (all_ascii_digits bs) (Some (read_on n bs)) None
digits_are n [] = refl
digits_are n (c ∷ cs) = along (is_ascii_digit c) (all_ascii_digits cs) _ _ (digits_are (n * 10 + (c - 48)) cs)

-- a text of at most the longest, with '0' in front of nothing, is read by its digits alone
pub plain_are : (bs : List ℕ) → 0 < length bs → length bs ≤ longest → (get_or bs 0 0 ≡ 48 → length bs ≡ 1) → plain_of bs ≡ digits 0 bs
plain_are [] some long alone = absurd (omega arith)
plain_are (c ∷ []) some long alone = refl
plain_are (c ∷ d ∷ cs) some long alone = rw (ne_eqb c 48 (λ e. omega (arith, alone e)), le-leb (length (c ∷ d ∷ cs)) longest long) refl

pub number_written : (n : ℕ) → Short n → plain_of (decimal n) ≡ Some n
number_written zero h = refl
number_written (suc n) h =
    let small : suc n < 2 ^ 64 = omega arith in
    let first = first_decimal (suc n) (omega arith) small in
    rw (← std_decimal (suc n) small)
    (plain_are (Fmt.decimal (suc n)) (decimal_nonempty (suc n) small) (length-decimal-le longest (suc n) (omega arith) h small) (λ e. omega arith)
    ∙ digits_are 0 (Fmt.decimal (suc n))
    ∙ ap (λ b. cond b (Some (read_on 0 (Fmt.decimal (suc n)))) None) (digits_decimal own (suc n) small)
    ∙ ap Some (digits_value-decimal own (suc n) small))

-- what is read of such a text is written so
read_back : (bs : List ℕ) (n : ℕ) → digits 0 bs ≡ Some n → 0 < length bs → length bs ≤ longest → (get_or bs 0 0 ≡ 48 → length bs ≡ 1) → (bs ≡ decimal n) × Short n
read_back bs n e some long alone = ⊎_elim
    (λ yes.
    let is : read_on 0 bs ≡ n = cc (digits_are 0 bs) in
    let small : read_on 0 bs < 10 ^ longest = digits_value_short own bs longest yes long in
    (sym (decimal-digits_value own bs yes some alone (omega arith)) ∙ ap Fmt.decimal is ∙ std_decimal n (omega arith), omega arith))
    (λ no'. none_some (sym (digits_are 0 bs ∙ ap (λ b. cond b (Some (read_on 0 bs)) None) no') ∙ e))
    (cases_Bool (all_ascii_digits bs))

pub number_read : (bs : List ℕ) (n : ℕ) → plain_of bs ≡ Some n → (bs ≡ decimal n) × Short n
number_read [] n e = none_some e
number_read (c ∷ []) n e = read_back (c ∷ []) n e (omega arith) (omega arith) (λ _. refl)
number_read (c ∷ d ∷ cs) n e = ⊎_elim
    (λ is. none_some (rw (eq-eqb c 48 is) at e))
    (λ no'. ⊎_elim
    (λ over. none_some (rw (ne_eqb c 48 no', lt-leb (length (c ∷ d ∷ cs)) longest over) at e))
    (λ long. read_back (c ∷ d ∷ cs) n (rw (ne_eqb c 48 no', le-leb (length (c ∷ d ∷ cs)) longest long) at e) (omega arith) long (λ is. absurd (no' is)))
    (cases_lt longest (length (c ∷ d ∷ cs))))
    (cases_eq c 48)

-- how many digits a number has
pub decimal_some : (n : ℕ) → 1 ≤ length (decimal n)
decimal_some zero = omega arith
decimal_some (suc n) = simp length-map (omega (arith, length-digits_of_step 10 (suc n) (omega arith) (omega arith)))

pub decimal_within : (k n : ℕ) → 1 ≤ k → n < 10 ^ k → length (decimal n) ≤ k
decimal_within k zero h small = omega arith
decimal_within k (suc n) h small = simp length-map (length-digits_of-le 10 k (suc n) (omega arith) small)

-- every list is [] or one more at the end of another
ends : (ds : List ℕ) → (ds ≡ []) ⊎ ((es : List ℕ) × (d : ℕ) × (ds ≡ es ++ (d ∷ [])))
ends [] = inl refl
ends (d ∷ []) = inr ([], d, refl)
ends (d ∷ e ∷ ds) = elim (ends (e ∷ ds)) [ inl h ↦ inr ([], d, ap (λ l. d ∷ l) h) | inr p ↦ inr (d ∷ p.0, p.1, ap (λ l. d ∷ l) p.2) ]

-- a digit behind a number's digits
push_step : (n d : ℕ) → d < 10 → 0 < n * 10 + d → digits_of 10 (n * 10 + d) ≡ digits_of 10 n ++ (d ∷ [])
push_step n d h more = digits_of_step 10 (n * 10 + d) (omega arith) more ∙ (λ i. digits_of 10 (over i) ++ (left i ∷ []))
  where
    over : (n * 10 + d) / 10 ≡ n
    over = omega arith

    left : (n * 10 + d) % 10 ≡ d
    left = omega arith

-- digits with one more at the end
under_split : (es : List ℕ) (d : ℕ) → AllBelowBase 10 (es ++ (d ∷ [])) → AllBelowBase 10 es × (d < 10)
under_split [] d u = (tt, u.0)
under_split (e ∷ es) d u = let r = under_split es d u.1 in ((u.0, r.0), r.1)

-- a first digit that is not 0 makes a number that is not 0
number_more : (ds : List ℕ) → 0 < length ds → 0 < get_or ds 0 0 → 0 < number_from_digits 10 ds
number_more [] h f = absurd (omega arith)
number_more (d ∷ ds) h f = omega (arith, number_after_ge 10 (0 * 10 + d) ds (omega arith))

-- digits that do not begin with 0 are those of the number that they make
pub digits_of_number : (k : ℕ) (ds : List ℕ) → length ds ≤ k → AllBelowBase 10 ds → (0 < length ds → 0 < get_or ds 0 0) → digits_of 10 (number_from_digits 10 ds) ≡ ds
digits_of_number zero [] l u f = refl
digits_of_number zero (x ∷ xs) l u f = absurd (omega arith)
digits_of_number (suc k) ds l u f = elim (ends ds) [
  | inl h ↦ ap (λ x. digits_of 10 (number_from_digits 10 x)) h ∙ sym h
  | inr p ↦
      let es : List ℕ = p.0 in
      let d : ℕ = p.1 in
      let e : ds ≡ es ++ (d ∷ []) = p.2 in
      let both : AllBelowBase 10 es × (d < 10) = under_split es d (subst (AllBelowBase 10) e u) in
      let long : length ds ≡ length es + 1 = ap length e ∙ length_push es d in
      let is : number_from_digits 10 ds ≡ number_from_digits 10 es * 10 + d = ap (number_from_digits 10) e ∙ number_push 10 es d in
      let more : 0 < number_from_digits 10 es * 10 + d = subst (λ x. 0 < x) is (number_more ds (omega arith) (f (omega arith))) in
      let first : 0 < length es → 0 < get_or es 0 0 = λ h. subst (λ x. 0 < x) (ap (λ x. get_or x 0 0) e ∙ get_or_append_left es (d ∷ []) 0 0 h) (f (omega arith)) in
      ap (digits_of 10) is ∙ push_step (number_from_digits 10 es) d both.1 more ∙ ap (λ x. x ++ (d ∷ [])) (digits_of_number k es (omega arith) both.0 first) ∙ sym e
]
