-- Each layer of the text, both ways: what is read is what is written. Assumes nothing.
use Rattle.std.proofs.Common.{◌≡◌, ℕ, zero, suc, ◌+◌, ◌<◌, Bool, true, cond, eqb, List, [], ◌∷◌, ◌++◌, map, ℤ, pos, negsuc, nat_abs, Some, None, Option, sym, refl, ap, ◌∙◌, subst, ⊎_elim, arith}
use Rattle.std.specs.List.{flat_map, AllByRecursion}
use Rattle.std.specs.Int.Digits.{digits_of}
use Rattle.std.proofs.lemmas.List.{append_assoc, append-nil}
use Rattle.std.proofs.lemmas.Bool.{eq-eqb, ne_eqb, eqb-true, cases_eq, and_parts}
use Rattle.daytext.specs.Text.{NumbersStand, plain_of, signed_of, below, above, decimal, signed_text, Short, Parts, more, parted, joined_by, glued, after, same}
use Rattle.daytext.proofs.Numerals.{number_written, number_read, none_some}

-- the byte c stands nowhere in the text
abbrev pub Without : ℕ → List ℕ → Type 0
Without c bs = AllByRecursion (λ b. b ≡ c → ⊥) bs

pub without_append : (c : ℕ) (xs ys : List ℕ) → Without c xs → Without c ys → Without c (xs ++ ys)
without_append c [] ys h k = k
without_append c (x ∷ xs) ys h k = (h.0, without_append c xs ys h.1 k)

-- Numbers: a lemma in _made reads what is written, and one in _back writes what was read
pub plain_made : (n : ℕ) → Short n → plain_of (decimal n) ≡ Some n
plain_made = number_written

pub plain_back : (bs : List ℕ) (n : ℕ) → plain_of bs ≡ Some n → (bs ≡ decimal n) × Short n
plain_back = number_read

digits_without : (c : ℕ) → c < 48 → (ds : List ℕ) → Without c (map (λ d. 48 + d) ds)
digits_without c h [] = tt
digits_without c h (d ∷ ds) = ((λ e. omega arith), digits_without c h ds)

pub decimal_without : (c n : ℕ) → c < 48 → Without c (decimal n)
decimal_without c zero h = ((λ e. omega arith), tt)
decimal_without c (suc n) h = digits_without c h (digits_of 10 (suc n))

pub signed_without : (c : ℕ) (z : ℤ) → c < 45 → Without c (signed_text z)
signed_without c (pos n) h = decimal_without c n (omega arith)
signed_without c (negsuc n) h = ((λ e. omega arith), decimal_without c (suc n) (omega arith))

-- a number's text does not begin with a minus
minus_not : (bs : List ℕ) → Without 45 bs → signed_of bs ≡ above (plain_of bs)
minus_not [] h = refl
minus_not (c ∷ cs) h = ap (λ b. cond b (below (plain_of cs)) (above (plain_of (c ∷ cs)))) (ne_eqb c 45 h.0)

pub signed_made : (z : ℤ) → Short (nat_abs z) → signed_of (signed_text z) ≡ Some z
signed_made (pos n) h = minus_not (decimal n) (decimal_without 45 n (omega arith)) ∙ ap above (plain_made n h)
signed_made (negsuc n) h = ap below (plain_made (suc n) h)

below_back : (bs : List ℕ) (o : Option ℕ) (z : ℤ) → plain_of bs ≡ o → below o ≡ Some z → ((45 ∷ bs) ≡ signed_text z) × Short (nat_abs z)
below_back bs None z e h = none_some h
below_back bs (Some zero) z e h = none_some h
below_back bs (Some (suc n)) z e h =
    let is : negsuc n ≡ z = cc in
    let r = plain_back bs (suc n) e in
    subst (λ x. ((45 ∷ bs) ≡ signed_text x) × Short (nat_abs x)) is (ap (λ l. 45 ∷ l) r.0, r.1)

above_back : (bs : List ℕ) (o : Option ℕ) (z : ℤ) → plain_of bs ≡ o → above o ≡ Some z → (bs ≡ signed_text z) × Short (nat_abs z)
above_back bs None z e h = none_some h
above_back bs (Some n) z e h =
    let is : pos n ≡ z = cc in
    subst (λ x. (bs ≡ signed_text x) × Short (nat_abs x)) is (plain_back bs n e)

pub signed_back : (bs : List ℕ) (z : ℤ) → signed_of bs ≡ Some z → (bs ≡ signed_text z) × Short (nat_abs z)
signed_back [] z h = none_some h
signed_back (c ∷ cs) z h = ⊎_elim
    (λ is.
    let r = below_back cs (plain_of cs) z refl (sym (ap (λ b. cond b (below (plain_of cs)) (above (plain_of (c ∷ cs)))) (eq-eqb c 45 is)) ∙ h) in
    (ap (λ x. x ∷ cs) is ∙ r.0, r.1))
    (λ no'. above_back (c ∷ cs) (plain_of (c ∷ cs)) z refl (sym (ap (λ b. cond b (below (plain_of cs)) (above (plain_of (c ∷ cs)))) (ne_eqb c 45 no')) ∙ h))
    (cases_eq c 45)

-- reading and writing of numbers are inverse
pub stand : NumbersStand
stand = record { written = plain_made; read = plain_back; signed_written = signed_made; signed_read = signed_back }

-- Keys
pub after_made : (k t : List ℕ) → after k (k ++ t) ≡ Some t
after_made [] t = refl
after_made (c ∷ k) t = ap (λ b. cond b (after k (k ++ t)) None) (eq-eqb c c refl) ∙ after_made k t

pub after_back : (k l t : List ℕ) → after k l ≡ Some t → l ≡ k ++ t
after_back [] l t h = cc
after_back (c ∷ k) [] t h = none_some h
after_back (c ∷ k) (d ∷ l) t h = ⊎_elim
    (λ is. ap (λ x. x ∷ l) is ∙ ap (λ x. c ∷ x) (after_back k l t (sym (ap (λ b. cond b (after k l) None) (eq-eqb d c is)) ∙ h)))
    (λ no'. none_some (sym (ap (λ b. cond b (after k l) None) (ne_eqb d c no')) ∙ h))
    (cases_eq d c)

pub same_back : (a b : List ℕ) → same a b ≡ true → a ≡ b
same_back [] [] h = refl
same_back [] (c ∷ cs) h = let z : ◌≡◌ {A = ℕ} 0 1 = cc in absurd (omega arith)
same_back (b ∷ bs) [] h = let z : ◌≡◌ {A = ℕ} 0 1 = cc in absurd (omega arith)
same_back (b ∷ bs) (c ∷ cs) h =
    let p = and_parts (eqb b c) (same bs cs) h in
    ap (λ x. x ∷ bs) (eqb-true b c p.0) ∙ ap (λ x. c ∷ x) (same_back bs cs p.1)

-- Parts: one byte more, which is a separator or not
abbrev pub cut : ℕ → ℕ → Parts → Bool → Parts
cut sep c p b = cond b (more [] p) (c ∷ p.0, p.1)

pub parted_back : (sep : ℕ) (bs : List ℕ) → glued sep (parted sep bs) ≡ bs
parted_back sep [] = refl
parted_back sep (c ∷ cs) = ⊎_elim
    (λ is. ap (λ b. glued sep (cut sep c (parted sep cs) b)) (eq-eqb c sep is) ∙ ap (λ x. x ∷ glued sep (parted sep cs)) (sym is) ∙ ap (λ x. c ∷ x) (parted_back sep cs))
    (λ no'. ap (λ b. glued sep (cut sep c (parted sep cs) b)) (ne_eqb c sep no') ∙ ap (λ x. c ∷ x) (parted_back sep cs))
    (cases_eq c sep)

-- a part in front of others
parted_front : (sep : ℕ) (f bs : List ℕ) → Without sep f → parted sep (f ++ (sep ∷ bs)) ≡ more f (parted sep bs)
parted_front sep [] bs h = ap (cut sep sep (parted sep bs)) (eq-eqb sep sep refl)
parted_front sep (c ∷ f) bs h =
    ap (cut sep c (parted sep (f ++ (sep ∷ bs)))) (ne_eqb c sep h.0) ∙ ap (λ (p : Parts). (c ∷ p.0, p.1)) (parted_front sep f bs h.1)

parted_alone : (sep : ℕ) (f : List ℕ) → Without sep f → parted sep f ≡ (f, [])
parted_alone sep [] h = refl
parted_alone sep (c ∷ f) h = ap (cut sep c (parted sep f)) (ne_eqb c sep h.0) ∙ ap (λ (p : Parts). (c ∷ p.0, p.1)) (parted_alone sep f h.1)

pub parted_made : (sep : ℕ) (f : List ℕ) (fs : List (List ℕ)) → Without sep f → AllByRecursion (Without sep) fs → parted sep (glued sep (f, fs)) ≡ (f, fs)
parted_made sep f [] h k = ap (parted sep) (append-nil f) ∙ parted_alone sep f h
parted_made sep f (g ∷ fs) h k = parted_front sep f (g ++ joined_by sep fs) h ∙ ap (more f) (parted_made sep g fs k.0 k.1)

-- lines, each ended, before what is left
abbrev pub ended : List (List ℕ) → Parts → Parts
ended [] p = p
ended (l ∷ ls) p = more l (ended ls p)

pub lines_made : (ls : List (List ℕ)) → AllByRecursion (Without 10) ls → parted 10 (flat_map (λ l. l ++ (10 ∷ [])) ls) ≡ ended ls ([], [])
lines_made [] h = refl
lines_made (l ∷ ls) h =
    ap (parted 10) (append_assoc l (10 ∷ []) (flat_map (λ x. x ++ (10 ∷ [])) ls))
    ∙ parted_front 10 l (flat_map (λ x. x ++ (10 ∷ [])) ls) h.0
    ∙ ap (more l) (lines_made ls h.1)

pub lines_back : (ls : List (List ℕ)) → glued 10 (ended ls ([], [])) ≡ flat_map (λ l. l ++ (10 ∷ [])) ls
lines_back [] = refl
lines_back (l ∷ ls) = ap (λ x. l ++ (10 ∷ x)) (lines_back ls) ∙ sym (append_assoc l (10 ∷ []) (flat_map (λ x. x ++ (10 ∷ [])) ls))

pub ended_append : (xs ys : List (List ℕ)) (p : Parts) → ended (xs ++ ys) p ≡ ended xs (ended ys p)
ended_append [] ys p = refl
ended_append (x ∷ xs) ys p = ap (more x) (ended_append xs ys p)
