-- How far a day file reaches, line by line. Assumes nothing.
use Rattle.std.proofs.Common.{◌≡◌, ℕ, ◌+◌, Bool, true, false, cond, eqb, List, [], ◌∷◌, ◌++◌, length, codes, is_some, None, Option, sym, refl, ap, ◌∙◌, ⊎_elim, inl, inr, arith, length-append}
use Rattle.std.proofs.lemmas.Bool.{cond-true, cond-false, cases_eq, eq-eqb, ne_eqb}
use Rattle.daytext.specs.Text.{Parts, after, glued, more, parted}
use Rattle.daytext.proofs.Texts.{Without, cut, parted_back}
use Rattle.journal.specs.Days.{LineEndsBefore, begins, day_length, first_reached, reached}

-- what belongs of the lines in a text to a day file that began before it
abbrev pub reached_in : List ℕ → ℕ
reached_in text = reached (parted 10 text).0 (parted 10 text).1

-- a text that is cut at a byte 10 is the line, that byte and what follows
cut_length : (text line rest : List ℕ) → parted 10 text ≡ more line (parted 10 rest) → length text ≡ length line + 1 + length rest
cut_length text line rest e =
    let is : text ≡ line ++ (10 ∷ rest) = sym (parted_back 10 text) ∙ ap (glued 10) e ∙ ap (λ l. line ++ (10 ∷ l)) (parted_back 10 rest) in
    omega (arith, ap length is, length-append line (10 ∷ rest))

-- a key with no byte 10 stands in the first line alone
both : (b : Bool) (o p : Option (List ℕ)) → is_some o ≡ is_some p → is_some (cond b o None) ≡ is_some (cond b p None)
both true o p e = e
both false o p e = refl

begins_line : (key text : List ℕ) → Without 10 key → begins key text ≡ begins key (parted 10 text).0
begins_line [] text w = refl
begins_line (k ∷ ks) [] w = refl
begins_line (k ∷ ks) (c ∷ cs) w = ⊎_elim
    (λ is.
    ap (λ b. is_some (cond b (after ks cs) None)) (ne_eqb c k (λ e. w.0 (sym e ∙ is)))
    ∙ sym (ap (λ b. begins (k ∷ ks) (cut 10 c (parted 10 cs) b).0) (eq-eqb c 10 is)))
    (λ no'.
    both (eqb c k) (after ks cs) (after ks (parted 10 cs).0) (begins_line ks cs w.1)
    ∙ sym (ap (λ b. begins (k ∷ ks) (cut 10 c (parted 10 cs) b).0) (ne_eqb c 10 no')))
    (cases_eq c 10)

begins_form : (text : List ℕ) → begins (codes "form=") text ≡ begins (codes "form=") (parted 10 text).0
begins_form text = begins_line (codes "form=") text (omega arith, (omega arith, (omega arith, (omega arith, (omega arith, tt)))))

begins_end : (text : List ℕ) → begins (codes "end=") text ≡ begins (codes "end=") (parted 10 text).0
begins_end text = begins_line (codes "end=") text (omega arith, (omega arith, (omega arith, (omega arith, tt))))

-- behind the first line of a text
pub behind_first : (text rest : List ℕ) → LineEndsBefore text rest → day_length text + length rest ≡ length text + reached_in rest
behind_first text rest (inl (alone, none)) =
    let is : day_length text ≡ length text = ap (λ (p : Parts). first_reached p.0 p.1) alone in
    let left : length rest ≡ 0 = ap length none in
    let part : reached_in rest ≡ 0 = ap reached_in none in
    omega arith
behind_first text rest (inr (line, e)) =
    let is : day_length text ≡ length line + 1 + reached_in rest = ap (λ (p : Parts). first_reached p.0 p.1) e in
    let long = cut_length text line rest e in
    omega arith

-- a line that begins the next day file
form_reached : (line : List ℕ) (lines : List (List ℕ)) → begins (codes "form=") line ≡ true → reached line lines ≡ 0
form_reached line [] e = cond-true _ _ _ e
form_reached line (next ∷ lines) e = cond-true _ _ _ e

pub at_form : (text : List ℕ) → begins (codes "form=") text ≡ true → reached_in text ≡ 0
at_form text e = form_reached (parted 10 text).0 (parted 10 text).1 (sym (begins_form text) ∙ e)

pub at_end : (text : List ℕ) → length text ≡ 0 → reached_in text ≡ 0
at_end [] e = refl
at_end (c ∷ cs) e = absurd (omega arith)

-- a line that begins none, and what follows it
whole_line : (b : Bool) (long part : ℕ) → cond b (long + 1) (long + 1 + part) ≡ long + 1 + cond b 0 part
whole_line true long part = omega arith
whole_line false long part = refl

nothing_left : (b : Bool) → ◌≡◌ {A = ℕ} (cond b 0 0) 0
nothing_left true = refl
nothing_left false = refl

reached_line : (text rest : List ℕ) → begins (codes "form=") text ≡ false → LineEndsBefore text rest → reached_in text + length rest ≡ length text + cond (begins (codes "end=") text) 0 (reached_in rest)
reached_line text rest other (inl (alone, none)) =
    let is : reached_in text ≡ length text = ap (λ (p : Parts). reached p.0 p.1) alone ∙ cond-false (begins (codes "form=") text) 0 (length text) other in
    let left : length rest ≡ 0 = ap length none in
    let part : cond (begins (codes "end=") text) 0 (reached_in rest) ≡ 0 =
    ap (λ r. cond (begins (codes "end=") text) 0 (reached_in r)) none ∙ nothing_left (begins (codes "end=") text) in
    omega arith
reached_line text rest other (inr (line, e)) =
    let first : (parted 10 text).0 ≡ line = ap (λ (p : Parts). p.0) e in
    let other' : begins (codes "form=") line ≡ false = sym (begins_form text ∙ ap (begins (codes "form=")) first) ∙ other in
    let last : begins (codes "end=") line ≡ begins (codes "end=") text = sym (begins_end text ∙ ap (begins (codes "end=")) first) in
    let is : reached_in text ≡ length line + 1 + cond (begins (codes "end=") text) 0 (reached_in rest) =
    ap (λ (p : Parts). reached p.0 p.1) e
    ∙ cond-false (begins (codes "form=") line) 0 _ other'
    ∙ whole_line (begins (codes "end=") line) (length line) (reached_in rest)
    ∙ ap (λ b. length line + 1 + cond b 0 (reached_in rest)) last in
    let long = cut_length text line rest e in
    omega arith

pub reached_on : (text rest : List ℕ) → begins (codes "form=") text ≡ false → begins (codes "end=") text ≡ false → LineEndsBefore text rest → reached_in text + length rest ≡ length text + reached_in rest
reached_on text rest other last ends = reached_line text rest other ends ∙ ap (λ n. length text + n) (cond-false (begins (codes "end=") text) 0 (reached_in rest) last)

pub reached_end : (text rest : List ℕ) → begins (codes "form=") text ≡ false → begins (codes "end=") text ≡ true → LineEndsBefore text rest → reached_in text + length rest ≡ length text
reached_end text rest other last ends =
    let part : cond (begins (codes "end=") text) 0 (reached_in rest) ≡ 0 = cond-true (begins (codes "end=") text) 0 (reached_in rest) last in
    let line = reached_line text rest other ends in
    omega arith
