-- Slices and the parts of a text. Assumes nothing.
use Rattle.std.proofs.Common.{◌≡◌, ◌≢◌, ℕ, suc, ◌+◌, ◌-◌, ◌<◌, Bool, true, false, cond, not, eqb, List, [], ◌∷◌, ◌++◌, length, get_or, take, drop, Some, None, Option, sym, refl, ap, ◌∙◌, ⊎_elim, arith, length-drop}
use native.Mathlib.Nat.{sub-zero}
use Rattle.std.specs.Borrow.{Bor}
use Rattle.std.specs.List.{position, prefix_len}
use Rattle.std.specs.Option.{MatchOption, unwrap_or}
use Rattle.std.proofs.lemmas.Grind.{common_steps}
use Rattle.std.proofs.lemmas.List.Sums.{prefix_len-le-length}
use Rattle.std.proofs.lemmas.List.{take_rest}
use Rattle.std.proofs.lemmas.Bool.{cases_Bool}
use Rattle.std.proofs.lemmas.Bool.Decides.{Decides-eqb}
use Rattle.std.proofs.lemmas.Slice.Eq.{strip_prefix_is}
use Rattle.std.specs.Cmp.Lexicographic.{pointwise}
use Rattle.daytext.specs.Text.{FirstAt, Parts, more, parted, after, seen, unlike}
use Rattle.daytext.proofs.Texts.{after_back, after_made, cut}

-- how far the first separator is from a byte that is one, or is none
abbrev steps : ℕ → List ℕ → Bool → ℕ
steps sep cs b = cond (not b) (1 + prefix_len (unlike sep) cs) 0

-- a text with no separator is all one part
pub parted_last : (sep : ℕ) (bs : List ℕ) → prefix_len (unlike sep) bs ≡ length bs → parted sep bs ≡ (bs, [])
parted_last sep [] h = refl
parted_last sep (c ∷ cs) h = ⊎_elim
    (λ e. let z : 0 ≡ suc (length cs) = sym (ap (steps sep cs) e) ∙ h in absurd (omega arith))
    (λ e. let z : 1 + prefix_len (unlike sep) cs ≡ suc (length cs) = sym (ap (steps sep cs) e) ∙ h in
    ap (cut sep c (parted sep cs)) e ∙ ap (λ (p : Parts). (c ∷ p.0, p.1)) (parted_last sep cs (omega arith)))
    (cases_Bool (eqb c sep))

-- a text with a separator at n has the part before it, and the parts of what follows
pub parted_more : (sep : ℕ) (bs : List ℕ) (n : ℕ) → prefix_len (unlike sep) bs ≡ n → n < length bs → parted sep bs ≡ more (take n bs) (parted sep (drop (n + 1) bs))
parted_more sep [] n e h = absurd (omega arith)
parted_more sep (c ∷ cs) n e h = ⊎_elim
    (λ t. let z : 0 ≡ n = sym (ap (steps sep cs) t) ∙ e in
    ap (cut sep c (parted sep cs)) t ∙ ap (λ k. more (take k (c ∷ cs)) (parted sep (drop (k + 1) (c ∷ cs)))) z)
    (λ f. let z : 1 + prefix_len (unlike sep) cs ≡ n = sym (ap (steps sep cs) f) ∙ e in
    let k : ℕ = prefix_len (unlike sep) cs in
    let over : suc k ≡ n = omega arith in
    let next : suc (k + 1) ≡ n + 1 = omega arith in
    ap (cut sep c (parted sep cs)) f
    ∙ ap (λ (p : Parts). (c ∷ p.0, p.1)) (parted_more sep cs k refl (omega arith))
    ∙ (λ i. more (take (over i) (c ∷ cs)) (parted sep (drop (next i) (c ∷ cs)))))
    (cases_Bool (eqb c sep))

-- the same, with the parts as slices have them
pub split_cut : (sep : ℕ) (bs : List ℕ) (n : ℕ) → prefix_len (unlike sep) bs ≡ n → n < length bs → (parted sep bs ≡ more (take n bs) (parted sep (take (length bs - (n + 1)) (drop (n + 1) bs)))) × (length (take (length bs - (n + 1)) (drop (n + 1) bs)) < length bs)
split_cut sep bs n e h = rw (take_rest bs (n + 1)) (parted_more sep bs n e h, simp length-drop (omega arith))

-- both, for the place of the first separator or the length
pub first_at : (sep : ℕ) (bs : List ℕ) (n : ℕ) → prefix_len (unlike sep) bs ≡ n → FirstAt sep bs n
first_at sep bs n e = record {
  whole = λ h. parted_last sep bs (e ∙ h);
  cut = λ h. rw (sub-zero n) (split_cut sep bs n e h).0;
}

-- what is not a key's front is not after it
pub after_none : (k l : List ℕ) → ((t : List ℕ) → l ≡ k ++ t → ⊥) → after k l ≡ None
after_none k l h = none (after k l) refl
  where
    none : (o : Option (List ℕ)) → after k l ≡ o → o ≡ None
    none None e = refl
    none (Some t) e = absurd (h t (after_back k l t e))

-- a text of three bytes
pub exact3 : (xs : List ℕ) (a b c : ℕ) → length xs ≡ 3 → get_or xs 0 0 ≡ a → get_or xs 1 0 ≡ b → get_or xs 2 0 ≡ c → xs ≡ a ∷ b ∷ c ∷ []
exact3 [] a b c h p q r = absurd (omega arith)
exact3 (x ∷ []) a b c h p q r = absurd (omega arith)
exact3 (x ∷ y ∷ []) a b c h p q r = absurd (omega arith)
exact3 (x ∷ y ∷ z ∷ []) a b c h p q r = cc
exact3 (x ∷ y ∷ z ∷ w ∷ ws) a b c h p q r = absurd (omega arith)

-- where the first separator stands, or that there is none
pub none_at : (sep : ℕ) (bs : List ℕ) → position (λ b. eqb b sep) bs ≡ None → prefix_len (unlike sep) bs ≡ length bs
none_at sep bs e = grind (arith, common_steps, prefix_len-le-length (unlike sep) bs)

pub some_at : (sep : ℕ) (bs : List ℕ) (n : ℕ) → position (λ b. eqb b sep) bs ≡ Some n → (prefix_len (unlike sep) bs ≡ n) × (n < length bs)
some_at sep bs n e = grind (arith, common_steps)

pub upto_at : (sep : ℕ) (bs : List ℕ) (n : ℕ) → n ≡ unwrap_or (position (λ b. eqb b sep) bs) (length bs) → prefix_len (unlike sep) bs ≡ n
upto_at sep bs n e = grind (arith, common_steps, prefix_len-le-length (unlike sep) bs)

-- the same of what a search for the separator answered
pub upto_found : (sep : ℕ) (bs : List ℕ) (n : ℕ) (found : Option ℕ) → found ≡ position (λ b. eqb b sep) bs → n ≡ unwrap_or found (length bs) → prefix_len (unlike sep) bs ≡ n
upto_found sep bs n found f e = upto_at sep bs n (e ∙ ap (λ o. unwrap_or o (length bs)) f)

pub first_found : (sep : ℕ) (bs : List ℕ) (n : ℕ) (found : Option ℕ) → found ≡ position (λ b. eqb b sep) bs → n ≡ unwrap_or found (length bs) → FirstAt sep bs n
first_found sep bs n found f e = first_at sep bs n (upto_found sep bs n found f e)

-- what stands behind a key, or that the line does not begin with it
pub past_key : (key line : List ℕ) (r : Option (Bor (List ℕ))) → MatchOption r ((t : List ℕ) → line ≢ key ++ t) (λ x. line ≡ key ++ x.now) → seen r ≡ after key line
past_key key line None h = sym (after_none key line h)
past_key key line (Some x) h = sym (ap (after key) h ∙ after_made key x.now)

-- the same of what taking the key from the front answered
pub past_front : (key line : List ℕ) (r : Option (Bor (List ℕ))) → MatchOption r (pointwise eqb (take (length key) line) key ≡ false) (λ x. (pointwise eqb (take (length key) line) key ≡ true) × (x.now ≡ drop (length key) line) × (length x.now + length key ≡ length line)) → seen r ≡ after key line
past_front key line r h = past_key key line r (strip_prefix_is Decides-eqb line key r h)
