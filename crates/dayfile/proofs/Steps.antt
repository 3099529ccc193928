-- Reading in steps, both ways: a lemma in _back takes what was read apart, and one in _made puts it together. Assumes nothing.
use Rattle.std.proofs.Common.{◌≡◌, ℕ, ◌≤◌, Bool, true, false, cond, eqb, leb, ◌⊎◌, List, [], ◌∷◌, ◌++◌, Some, None, Ok, Err, codes, Option, Result, sym, refl, ap, ◌∙◌, subst, inl, inr, arith}
use Rattle.std.proofs.lemmas.Bool.{eq-eqb, eqb-true, leb-true, le-leb, and_parts, and_from}
use Rattle.terms.specs.Limits.{within, last_member, last_segment, day_limit, most_scenarios}
use Rattle.terms.specs.Refusing.{first_refusal}
use Rattle.terms.specs.declared.refusals.Refusal.{Refusal}
use Rattle.terms.specs.declared.refusals.Refusal.TheVariants as refusals
use Rattle.figures.specs.Headings.{heading_tests}
use Rattle.daytext.specs.Text.{plain_of, decimal, Short, Parts, more, after}
use Rattle.daytext.proofs.Numerals.{none_some}
use Rattle.daytext.proofs.Texts.{after_made, after_back, plain_made, plain_back, ended}
use Rattle.dayreport.specs.declared.faults.Fault.{Fault}
use Rattle.dayreport.specs.declared.faults.Fault.TheVariants.{Line}
use Rattle.dayfile.specs.declared.head.Head.{Head}
use Rattle.dayfile.specs.Days.{head_lines, Headed}
use Rattle.dayfile.specs.Reading.{◌>>=◌, ◌>>◌, want, given, maybe, next, numbered, headed, lines_read, head_read}

-- a fault is never an answer
pub err_ok : {A B C : Type 0} {e : B} {a : A} → ◌≡◌ {A = Result A B} (Err e) (Ok a) → C
err_ok p = let z : ◌≡◌ {A = ℕ} 0 1 = cc in absurd (omega arith)

pub err_same : {A B : Type 0} {e f : B} → ◌≡◌ {A = Result A B} (Err e) (Err f) → e ≡ f
err_same p = cc

pub ok_same : {A B : Type 0} {a b : A} → ◌≡◌ {A = Result A B} (Ok a) (Ok b) → a ≡ b
ok_same p = cc

pub some_same : {A : Type 0} {a b : A} → ◌≡◌ {A = Option A} (Some a) (Some b) → a ≡ b
some_same p = cc

-- What was read, taken apart: each step gave something, and what follows it gave the answer.
pub then_back : {A B : Type 0} (r : Result A Fault) (f : A → Result B Fault) (b : B) → ◌>>=◌ r f ≡ Ok b → (a : A) × (r ≡ Ok a) × (f a ≡ Ok b)
then_back (Ok a) f b h = (a, refl, h)
then_back (Err e) f b h = err_ok h

pub given_back : {A B : Type 0} (o : Option A) (e : Fault) (f : A → Result B Fault) (b : B) → ◌>>=◌ (given o e) f ≡ Ok b → (a : A) × (o ≡ Some a) × (f a ≡ Ok b)
given_back (Some a) e f b h = (a, refl, h)
given_back None e f b h = err_ok h

pub want_back : {B : Type 0} (t : Bool) (e : Fault) (r : Result B Fault) (b : B) → ◌>>◌ (want t e) r ≡ Ok b → (t ≡ true) × (r ≡ Ok b)
want_back true e r b h = (refl, h)
want_back false e r b h = err_ok h

pub also_back : {B : Type 0} (s : Result (Unit {0}) Fault) (r : Result B Fault) (b : B) → ◌>>◌ s r ≡ Ok b → (s ≡ Ok tt) × (r ≡ Ok b)
also_back (Ok u) r b h = (refl, h)
also_back (Err e) r b h = err_ok h

-- The other way: a step that gives something goes on with it.
pub then_made : {A B : Type 0} (r : Result A Fault) (f : A → Result B Fault) (a : A) {x : Result B Fault} → r ≡ Ok a → f a ≡ x → ◌>>=◌ r f ≡ x
then_made r f a p q = ap (λ y. ◌>>=◌ y f) p ∙ q

pub given_made : {A B : Type 0} (o : Option A) (e : Fault) (f : A → Result B Fault) (a : A) {x : Result B Fault} → o ≡ Some a → f a ≡ x → ◌>>=◌ (given o e) f ≡ x
given_made o e f a p q = ap (λ y. ◌>>=◌ (given y e) f) p ∙ q

pub want_made : {B : Type 0} (t : Bool) (e : Fault) (r : Result B Fault) {x : Result B Fault} → t ≡ true → r ≡ x → ◌>>◌ (want t e) r ≡ x
want_made t e r p q = ap (λ y. ◌>>◌ (want y e) r) p ∙ q

pub also_made : {B : Type 0} (s : Result (Unit {0}) Fault) (r : Result B Fault) {x : Result B Fault} → s ≡ Ok tt → r ≡ x → ◌>>◌ s r ≡ x
also_made s r p q = ap (λ y. ◌>>◌ y r) p ∙ q

-- Something or nothing
pub maybe_back : {A B : Type 0} (o : Option A) (f : A → B) (d b : B) → maybe o f d ≡ b → ((a : A) × (o ≡ Some a) × (f a ≡ b)) ⊎ ((o ≡ None) × (d ≡ b))
maybe_back (Some a) f d b h = inl (a, refl, h)
maybe_back None f d b h = inr (refl, h)

-- the same where nothing gives nothing
pub some_back : {A B : Type 0} (o : Option A) (f : A → Option B) (b : B) → maybe o f None ≡ Some b → (a : A) × (o ≡ Some a) × (f a ≡ Some b)
some_back (Some a) f b h = (a, refl, h)
some_back None f b h = none_some h

pub some_made : {A B : Type 0} (o : Option A) (f : A → Option B) (a : A) (b : B) → o ≡ Some a → f a ≡ Some b → maybe o f None ≡ Some b
some_made o f a b p q = ap (λ x. maybe x f None) p ∙ q

-- A line by its key
pub next_back : (key : List ℕ) (n : ℕ) (p : Parts) (r : List ℕ × Parts) → next key n p ≡ Ok r → p ≡ more (key ++ r.0) r.1
next_back key n (l, []) r h = err_ok h
next_back key n (l, m ∷ ls) r h =
    let g = given_back _ _ _ _ h in
    ap (λ x. more x (m, ls)) (after_back key l g.0 g.1) ∙ ap (λ (x : List ℕ × Parts). more (key ++ x.0) x.1) (ok_same g.2)

pub next_made : (key : List ℕ) (n : ℕ) (t : List ℕ) (q : Parts) → next key n (more (key ++ t) q) ≡ Ok (t, q)
next_made key n t q = given_made (after key (key ++ t)) (Line refusals.Key n) (λ x. Ok (x, q)) t (after_made key t) refl

pub numbered_back : (key : List ℕ) (n : ℕ) (p : Parts) (r : ℕ × Parts) → numbered key n p ≡ Ok r → (p ≡ more (key ++ decimal r.0) r.1) × Short r.0
numbered_back key n p r h =
    let t = then_back (next key n p) _ _ h in
    let k = given_back _ _ _ _ t.2 in
    let d = plain_back _ _ k.1 in
    subst (λ (x : ℕ × Parts). (p ≡ more (key ++ decimal x.0) x.1) × Short x.0) (ok_same k.2)
    (next_back key n p t.0 t.1 ∙ ap (λ x. more (key ++ x) t.0.1) d.0, d.1)

pub numbered_made : (key : List ℕ) (n k : ℕ) (q : Parts) → Short k → numbered key n (more (key ++ decimal k) q) ≡ Ok (k, q)
numbered_made key n k q h =
    then_made (next key n (more (key ++ decimal k) q)) (λ t. ◌>>=◌ (given (plain_of t.0) (Line refusals.Field n)) (λ x. Ok (x, t.1))) (decimal k, q) (next_made key n (decimal k) q)
    (given_made (plain_of (decimal k)) (Line refusals.Field n) (λ x. Ok (x, q)) k (plain_made k h) refl)

-- Limits
pub within_back : (low high x : ℕ) → within low high x ≡ true → (low ≤ x) × (x ≤ high)
within_back low high x h = let p = and_parts (leb low x) (leb x high) h in (leb-true _ _ p.0, leb-true _ _ p.1)

pub within_made : (low high x : ℕ) → (low ≤ x) × (x ≤ high) → within low high x ≡ true
within_made low high x h = and_from (leb low x) (leb x high) (le-leb _ _ h.0) (le-leb _ _ h.1)

-- Steps for use one after another: what each gave is bound by λ.
pub then_cases : {A B C : Type 0} (r : Result A Fault) (f : A → Result B Fault) (b : B) → ◌>>=◌ r f ≡ Ok b → ((a : A) → r ≡ Ok a → f a ≡ Ok b → C) → C
then_cases r f b h k = let t = then_back r f b h in k t.0 t.1 t.2

pub want_cases : {B C : Type 0} (t : Bool) (e : Fault) (r : Result B Fault) (b : B) → ◌>>◌ (want t e) r ≡ Ok b → (t ≡ true → r ≡ Ok b → C) → C
want_cases t e r b h k = let w = want_back t e r b h in k w.0 w.1

pub line_cases : {B C : Type 0} (key : List ℕ) (n : ℕ) (p : Parts) (f : ℕ × Parts → Result B Fault) (b : B) → ◌>>=◌ (numbered key n p) f ≡ Ok b → ((k : ℕ) (q : Parts) → p ≡ more (key ++ decimal k) q → Short k → f (k, q) ≡ Ok b → C) → C
line_cases key n p f b h c =
    let t = then_back (numbered key n p) f b h in
    let l = numbered_back key n p t.0 t.1 in
    c t.0.0 t.0.1 l.0 l.1 t.2

pub line_then : {B : Type 0} (key : List ℕ) (n k : ℕ) (q : Parts) (f : ℕ × Parts → Result B Fault) {x : Result B Fault} → Short k → f (k, q) ≡ x → ◌>>=◌ (numbered key n (more (key ++ decimal k) q)) f ≡ x
line_then key n k q f s e = then_made (numbered key n (more (key ++ decimal k) q)) f (k, q) (numbered_made key n k q s) e

-- The heading: the limits of its numbers
pub record InLimits (h : Head) : Type 0 where
  pub member : (1 ≤ h.member) × (h.member ≤ last_member)
  pub segment : (1 ≤ h.segment) × (h.segment ≤ last_segment)
  pub day : (1 ≤ h.day) × (h.day ≤ day_limit)
  pub scenarios : (1 ≤ h.scenarios) × (h.scenarios ≤ most_scenarios)

-- nothing is refused: the first test passed, and nothing is refused after it
pub unrefused : (b : Bool) (o : Option Refusal) (r : Refusal) → cond b o (Some r) ≡ None → (b ≡ true) × (o ≡ None)
unrefused true o r h = (refl, h)
unrefused false o r h = none_some (sym h)

-- an accepted heading's numbers
pub heading_limits : (h : Head) → Headed h → InLimits h
heading_limits h g =
    let m = unrefused _ _ _ g in
    let s = unrefused _ _ _ m.1 in
    let d = unrefused _ _ _ s.1 in
    let c = unrefused _ _ _ d.1 in
    record { member = within_back _ _ h.member m.0; segment = within_back _ _ h.segment s.0; day = within_back _ _ h.day d.0; scenarios = within_back _ _ h.scenarios c.0 }

-- a heading that passes has no refusal
pub headed_back : (o : Option Refusal) → headed o ≡ Ok tt → o ≡ None
headed_back None h = refl
headed_back (Some r) h = err_ok h

-- lines 1 to 5
pub first_lines_back : (p : Parts) (r : Head × Parts) → lines_read p ≡ Ok r → p ≡ ended (head_lines r.0) r.1
first_lines_back p r g =
    line_cases (codes "form=") 1 p _ _ g λ f p₁ e₁ s₁ g₁.
    want_cases (eqb f 1) (Line refusals.Field 1) _ _ g₁ λ one g₂.
    line_cases (codes "member=") 2 p₁ _ _ g₂ λ m p₂ e₂ s₂ g₃.
    line_cases (codes "segment=") 3 p₂ _ _ g₃ λ s p₃ e₃ s₃ g₄.
    line_cases (codes "day=") 4 p₃ _ _ g₄ λ d p₄ e₄ s₄ g₅.
    line_cases (codes "scen=") 5 p₄ _ _ g₅ λ c p₅ e₅ s₅ g₆.
    subst (λ (x : Head × Parts). p ≡ ended (head_lines x.0) x.1) (ok_same g₆)
    (e₁ ∙ ap (λ k. more (codes "form=" ++ decimal k) p₁) (eqb-true f 1 one)
    ∙ ap (more (codes "form=" ++ decimal 1)) (e₂ ∙ ap (more (codes "member=" ++ decimal m)) (e₃ ∙ ap (more (codes "segment=" ++ decimal s)) (e₄ ∙ ap (more (codes "day=" ++ decimal d)) e₅))))

-- what follows line k, where it was read as line n
read_on : {B : Type 0} (key : List ℕ) (n k : ℕ) (p : Parts) (g : ℕ × Parts → Result B Fault) (x : Result (ℕ × Parts) Fault) {y : Result B Fault} → n ≡ k → x ≡ numbered key n p → ◌>>=◌ x g ≡ y → ◌>>=◌ (numbered key k p) g ≡ y
read_on key n k p g x a e h = ap (λ j. ◌>>=◌ (numbered key j p) g) (sym a) ∙ ap (λ r. ◌>>=◌ r g) (sym e) ∙ h

-- the fault of the third of the first lines, of the fourth and of the fifth
module _ (p q₁ q₂ : Parts) (n₁ n₂ f m : ℕ) (a₁ : n₁ ≡ 1) (a₂ : n₂ ≡ 2) (one : f ≡ 1) (e₁ : Ok (f, q₁) ≡ numbered (codes "form=") n₁ p) (e₂ : Ok (m, q₂) ≡ numbered (codes "member=") n₂ q₁) (n₃ : ℕ) (a₃ : n₃ ≡ 3) where
  pub third_bad : (e : Fault) → Err e ≡ numbered (codes "segment=") n₃ q₂ → Err e ≡ lines_read p
  third_bad e h = sym (read_on (codes "form=") n₁ 1 p _ (Ok (f, q₁)) a₁ e₁ (want_made (eqb f 1) _ _ (eq-eqb f 1 one) (read_on (codes "member=") n₂ 2 q₁ _ (Ok (m, q₂)) a₂ e₂ (read_on (codes "segment=") n₃ 3 q₂ _ (Err e) a₃ h refl))))

  module _ (q₃ : Parts) (s n₄ : ℕ) (a₄ : n₄ ≡ 4) (e₃ : Ok (s, q₃) ≡ numbered (codes "segment=") n₃ q₂) where
    pub fourth_bad : (e : Fault) → Err e ≡ numbered (codes "day=") n₄ q₃ → Err e ≡ lines_read p
    fourth_bad e h = sym (read_on (codes "form=") n₁ 1 p _ (Ok (f, q₁)) a₁ e₁ (want_made (eqb f 1) _ _ (eq-eqb f 1 one) (read_on (codes "member=") n₂ 2 q₁ _ (Ok (m, q₂)) a₂ e₂ (read_on (codes "segment=") n₃ 3 q₂ _ (Ok (s, q₃)) a₃ e₃ (read_on (codes "day=") n₄ 4 q₃ _ (Err e) a₄ h refl)))))

    module _ (q₄ : Parts) (d n₅ : ℕ) (a₅ : n₅ ≡ 5) (e₄ : Ok (d, q₄) ≡ numbered (codes "day=") n₄ q₃) where
      pub fifth_bad : (e : Fault) → Err e ≡ numbered (codes "scen=") n₅ q₄ → Err e ≡ lines_read p
      fifth_bad e h = sym (read_on (codes "form=") n₁ 1 p _ (Ok (f, q₁)) a₁ e₁ (want_made (eqb f 1) _ _ (eq-eqb f 1 one) (read_on (codes "member=") n₂ 2 q₁ _ (Ok (m, q₂)) a₂ e₂ (read_on (codes "segment=") n₃ 3 q₂ _ (Ok (s, q₃)) a₃ e₃ (read_on (codes "day=") n₄ 4 q₃ _ (Ok (d, q₄)) a₄ e₄ (read_on (codes "scen=") n₅ 5 q₄ _ (Err e) a₅ h refl))))))

pub first_lines_made : (h : Head) (q : Parts) → InLimits h → lines_read (ended (head_lines h) q) ≡ Ok (h, q)
first_lines_made h q s =
    let p₅ : Parts = more (codes "scen=" ++ decimal h.scenarios) q in
    let p₄ : Parts = more (codes "day=" ++ decimal h.day) p₅ in
    let p₃ : Parts = more (codes "segment=" ++ decimal h.segment) p₄ in
    line_then (codes "member=") 2 h.member p₃ _ (omega (arith, s.member))
    (line_then (codes "segment=") 3 h.segment p₄ _ (omega (arith, s.segment))
    (line_then (codes "day=") 4 h.day p₅ _ (omega (arith, s.day))
    (line_then (codes "scen=") 5 h.scenarios q _ (omega (arith, s.scenarios)) refl)))

-- the first lines with a heading that is accepted
pub head_back : (p : Parts) (r : Head × Parts) → head_read p ≡ Ok r → (p ≡ ended (head_lines r.0) r.1) × Headed r.0
head_back p r g =
    then_cases (lines_read p) _ _ g λ h e g₁.
    let l = also_back (headed (first_refusal (heading_tests h.0.member h.0.segment h.0.day h.0.scenarios))) (Ok h) r g₁ in
    subst (λ (x : Head × Parts). (p ≡ ended (head_lines x.0) x.1) × Headed x.0) (ok_same l.1) (first_lines_back p h e, headed_back _ l.0)

pub head_made : (h : Head) (q : Parts) → Headed h → head_read (ended (head_lines h) q) ≡ Ok (h, q)
head_made h q g =
    then_made (lines_read (ended (head_lines h) q)) _ (h, q) (first_lines_made h q (heading_limits h g))
    (also_made (headed (first_refusal (heading_tests h.member h.segment h.day h.scenarios))) _ (ap headed g) refl)
