-- The sheet's lines, and the fields of positions and accounts, each both ways. Assumes nothing.
use Rattle.std.proofs.Common.{◌≡◌, ℕ, zero, suc, ◌+◌, ◌≤◌, true, cond, List, [], ◌∷◌, ◌++◌, map, length, ℤ, nat_abs, Some, None, Ok, codes, Option, sym, refl, ap, ◌∙◌, subst, ⊎_elim, arith}
use Rattle.std.specs.List.{list_all, AllByRecursion}
use Rattle.std.proofs.lemmas.Bool.{eq-eqb, eqb-true, leb-true, le-leb, cases_Bool, and_parts, and_from}
use Rattle.terms.specs.Limits.{within, most_assets, change_limit}
use Rattle.figures.specs.declared.kinds.Kind.{Kind}
use Rattle.figures.specs.declared.kinds.Kind.TheVariants.{Own, Client}
use Rattle.figures.specs.declared.kinds.Account.{Account}
use Rattle.figures.specs.declared.kinds.Position.{Position}
use Rattle.figures.specs.Accounts.{change_ok}
use Rattle.daytext.specs.Text.{plain_of, signed_of, decimal, signed_text, Short, Parts, more, parted, glued, same}
use Rattle.daytext.proofs.Numerals.{none_some}
use Rattle.daytext.proofs.Texts.{plain_made, plain_back, signed_made, signed_back, parted_made, parted_back, same_back, decimal_without, signed_without, Without, ended}
use Rattle.dayfile.specs.Days.{kind_text, change_text, change_line, sheet_lines, InRange, Lawful, Numbered}
use Rattle.dayfile.specs.Reading.{next, also, numbers, changes, rows_read, assets_read, sheet_read, position_fields, kind_of, account_fields}
use Rattle.dayfile.proofs.Steps.{ok_same, some_same, then_back, given_back, want_back, then_made, given_made, want_made, some_back, some_made, next_back, then_cases, line_cases, want_cases, line_then, within_back, within_made}

-- Numbers between commas
also_parts : {A : Type 0} (o : Option A) (r : Option (List A)) (zs : List A) → also o r ≡ Some zs → (z : A) × (ws : List A) × (o ≡ Some z) × (r ≡ Some ws) × ((z ∷ ws) ≡ zs)
also_parts None r zs h = none_some h
also_parts (Some z) None zs h = none_some h
also_parts (Some z) (Some ws) zs h = (z, ws, refl, refl, some_same h)

-- numbers that a line can hold
abbrev pub Shorts : List ℤ → Type 0
Shorts zs = AllByRecursion (λ z. Short (nat_abs z)) zs

pub numbers_back : (fs : List (List ℕ)) (zs : List ℤ) → numbers fs ≡ Some zs → (fs ≡ map signed_text zs) × Shorts zs
numbers_back [] zs h = subst (λ x. (◌≡◌ {A = List (List ℕ)} [] (map signed_text x)) × Shorts x) (some_same h) (refl, tt)
numbers_back (f ∷ fs) zs h =
    let a = also_parts (signed_of f) (numbers fs) zs h in
    let s = signed_back f a.0 a.2 in
    let r = numbers_back fs a.1 a.3 in
    subst (λ x. ((f ∷ fs) ≡ map signed_text x) × Shorts x) a.4 ((λ i. s.0 i ∷ r.0 i), (s.1, r.1))

pub numbers_made : (zs : List ℤ) → Shorts zs → numbers (map signed_text zs) ≡ Some zs
numbers_made [] h = refl
numbers_made (z ∷ zs) h = (λ i. also (signed_made z h.0 i) (numbers_made zs h.1 i))

-- the text of fields that write numbers
text_from : (p : Parts) (zs : List ℤ) → (p.0 ∷ p.1) ≡ map signed_text zs → glued 44 p ≡ change_text zs
text_from p [] e = let z : ◌≡◌ {A = ℕ} 0 1 = cc in absurd (omega arith)
text_from p (z ∷ zs) e =
    let a : p.0 ≡ signed_text z = cc in
    let b : p.1 ≡ map signed_text zs = cc in
    (λ i. glued 44 (a i, b i))

-- no number holds a comma, so the fields of the text are theirs
commaless : (zs : List ℤ) → AllByRecursion (Without 44) (map signed_text zs)
commaless [] = tt
commaless (z ∷ zs) = (signed_without 44 z (omega arith), commaless zs)

pub parts_of : (zs : List ℤ) → 1 ≤ length zs → ((parted 44 (change_text zs)).0 ∷ (parted 44 (change_text zs)).1) ≡ map signed_text zs
parts_of [] h = absurd (omega arith)
parts_of (z ∷ zs) h = ap (λ (p : Parts). p.0 ∷ p.1) (parted_made 44 (signed_text z) (map signed_text zs) (signed_without 44 z (omega arith)) (commaless zs))

-- Changes
pub small_back : (zs : List ℤ) → list_all change_ok zs ≡ true → AllByRecursion (λ z. nat_abs z ≤ change_limit) zs
small_back [] h = tt
small_back (z ∷ zs) h = let p = and_parts (change_ok z) (list_all change_ok zs) h in (leb-true _ _ p.0, small_back zs p.1)

pub small_made : (zs : List ℤ) → AllByRecursion (λ z. nat_abs z ≤ change_limit) zs → list_all change_ok zs ≡ true
small_made [] h = refl
small_made (z ∷ zs) h = and_from (change_ok z) (list_all change_ok zs) (le-leb _ _ h.0) (small_made zs h.1)

shorts_from : (zs : List ℤ) → AllByRecursion (λ z. nat_abs z ≤ change_limit) zs → Shorts zs
shorts_from [] h = tt
shorts_from (z ∷ zs) h = (omega (arith, h.0), shorts_from zs h.1)

pub changes_back : (scenarios n : ℕ) (t : List ℕ) (zs : List ℤ) → changes scenarios n t ≡ Ok zs → (t ≡ change_text zs) × InRange scenarios zs
changes_back scenarios n t zs h =
    let g = given_back _ _ _ _ h in
    let c = want_back _ _ _ _ g.2 in
    let s = want_back _ _ _ _ c.1 in
    subst (λ x. (t ≡ change_text x) × InRange scenarios x) (ok_same s.1)
    (sym (parted_back 44 t) ∙ text_from (parted 44 t) g.0 (numbers_back _ _ g.1).0, record { count = eqb-true _ _ c.0; small = small_back g.0 s.0 })

pub changes_made : (scenarios n : ℕ) (zs : List ℤ) → 1 ≤ scenarios → InRange scenarios zs → changes scenarios n (change_text zs) ≡ Ok zs
changes_made scenarios n zs one r =
    given_made _ _ _ zs (ap numbers (parts_of zs (omega (arith, r.count))) ∙ numbers_made zs (shorts_from zs r.small))
    (want_made _ _ _ (eq-eqb _ _ r.count) (want_made _ _ _ (small_made zs r.small) refl))

-- the rows of a sheet: each has a change for each scenario
pub rows_back : (scenarios k n : ℕ) (p : Parts) (r : List (List ℤ) × Parts) → rows_read scenarios k n p ≡ Ok r → (p ≡ ended (map change_line r.0) r.1) × (length r.0 ≡ k) × AllByRecursion (InRange scenarios) r.0
rows_back scenarios zero n p r h = subst (λ (x : List (List ℤ) × Parts). (p ≡ ended (map change_line x.0) x.1) × (length x.0 ≡ 0) × AllByRecursion (InRange scenarios) x.0) (ok_same h) (refl, refl, tt)
rows_back scenarios (suc k) n p r h =
    let t = then_back (next (codes "chg=") n p) _ _ h in
    let c = then_back (changes scenarios n t.0.0) _ _ t.2 in
    let s = then_back (rows_read scenarios k (n + 1) t.0.1) _ _ c.2 in
    let i = rows_back scenarios k (n + 1) t.0.1 s.0 s.1 in
    let z = changes_back scenarios n t.0.0 c.0 c.1 in
    subst (λ (x : List (List ℤ) × Parts). (p ≡ ended (map change_line x.0) x.1) × (length x.0 ≡ suc k) × AllByRecursion (InRange scenarios) x.0) (ok_same s.2)
    (next_back (codes "chg=") n p t.0 t.1 ∙ (λ j. more (codes "chg=" ++ z.0 j) (i.0 j)), ap suc i.1, (z.1, i.2))

pub rows_made : (scenarios n : ℕ) (zss : List (List ℤ)) (q : Parts) → 1 ≤ scenarios → AllByRecursion (InRange scenarios) zss → rows_read scenarios (length zss) n (ended (map change_line zss) q) ≡ Ok (zss, q)
rows_made scenarios n [] q one h = refl
rows_made scenarios n (zs ∷ zss) q one h =
    then_made (changes scenarios n (change_text zs)) _ zs (changes_made scenarios n zs one h.0)
    (then_made (rows_read scenarios (length zss) (n + 1) (ended (map change_line zss) q)) _ (zss, q) (rows_made scenarios (n + 1) zss q one h.1) refl)

-- line 6
pub assets_back : (p : Parts) (r : ℕ × Parts) → assets_read p ≡ Ok r → (p ≡ more (codes "assets=" ++ decimal r.0) r.1) × (1 ≤ r.0) × (r.0 ≤ most_assets)
assets_back p r h =
    line_cases (codes "assets=") 6 p _ _ h λ k q e s h₁.
    want_cases (within 1 most_assets k) _ _ _ h₁ λ w h₂.
    let l = within_back 1 most_assets k w in
    subst (λ (x : ℕ × Parts). (p ≡ more (codes "assets=" ++ decimal x.0) x.1) × (1 ≤ x.0) × (x.0 ≤ most_assets)) (ok_same h₂) (e, l.0, l.1)

pub assets_made : (k : ℕ) (q : Parts) → (1 ≤ k) × (k ≤ most_assets) → assets_read (more (codes "assets=" ++ decimal k) q) ≡ Ok (k, q)
assets_made k q l =
    line_then (codes "assets=") 6 k q _ (omega (arith, l))
    (want_made (within 1 most_assets k) _ _ (within_made 1 most_assets k l) refl)

-- line 6 and the rows
pub sheet_back : (scenarios : ℕ) (p : Parts) (r : List (List ℤ) × Parts) → sheet_read scenarios p ≡ Ok r → (p ≡ ended (sheet_lines r.0) r.1) × Lawful scenarios r.0
sheet_back scenarios p r h =
    then_cases (assets_read p) _ _ h λ a e h₁.
    let n = assets_back p a e in
    let l = rows_back scenarios a.0 7 a.1 r h₁ in
    (n.0 ∙ (λ i. more (codes "assets=" ++ decimal (sym l.1 i)) (l.0 i)), record { assets = subst (λ x. (1 ≤ x) × (x ≤ most_assets)) (sym l.1) (n.1, n.2); changes = l.2 })

pub sheet_made : (scenarios : ℕ) (zss : List (List ℤ)) (q : Parts) → 1 ≤ scenarios → Lawful scenarios zss → sheet_read scenarios (ended (sheet_lines zss) q) ≡ Ok (zss, q)
sheet_made scenarios zss q one l =
    then_made (assets_read (ended (sheet_lines zss) q)) _ (length zss, ended (map change_line zss) q) (assets_made (length zss) (ended (map change_line zss) q) l.assets)
    (rows_made scenarios 7 zss q one l.changes)

-- Positions
position_fields_back : (p : Parts) (q : Position) → position_fields p ≡ Some q → (p ≡ (decimal q.asset, signed_text q.quantity ∷ [])) × Numbered q
position_fields_back (f, []) q h = none_some h
position_fields_back (f, g ∷ []) q h =
    let a = some_back (plain_of f) _ _ h in
    let b = some_back (signed_of g) _ _ a.2 in
    let x = plain_back f a.0 a.1 in
    let y = signed_back g b.0 b.1 in
    subst (λ (r : Position). (◌≡◌ {A = Parts} (f, g ∷ []) (decimal r.asset, signed_text r.quantity ∷ [])) × Numbered r) (some_same b.2)
    ((λ i. (x.0 i, y.0 i ∷ [])), record { asset = x.1; quantity = y.1 })
position_fields_back (f, g ∷ k ∷ fs) q h = none_some h

pub position_back : (t : List ℕ) (q : Position) → position_fields (parted 44 t) ≡ Some q → (t ≡ glued 44 (decimal q.asset, signed_text q.quantity ∷ [])) × Numbered q
position_back t q h =
    let r = position_fields_back (parted 44 t) q h in
    (sym (parted_back 44 t) ∙ ap (glued 44) r.0, r.1)

pub position_made : (q : Position) → Numbered q → position_fields (parted 44 (glued 44 (decimal q.asset, signed_text q.quantity ∷ []))) ≡ Some q
position_made q h =
    ap position_fields (parted_made 44 (decimal q.asset) (signed_text q.quantity ∷ []) (decimal_without 44 q.asset (omega arith)) (signed_without 44 q.quantity (omega arith), tt))
    ∙ some_made _ _ q.asset _ (plain_made q.asset h.asset) (some_made _ _ q.quantity _ (signed_made q.quantity h.quantity) refl)

-- Accounts
pub kind_back : (t : List ℕ) (k : Kind) → kind_of t ≡ Some k → t ≡ kind_text k
kind_back t k h = ⊎_elim
    (λ y. same_back t (codes "own") y ∙ ap kind_text (some_same (sym (ap (λ b. cond b (Some Own) (cond (same t (codes "cli")) (Some Client) None)) y) ∙ h)))
    (λ n. ⊎_elim
    (λ y. same_back t (codes "cli") y ∙ ap kind_text (some_same (sym (ap (λ b. cond b (Some Own) (cond (same t (codes "cli")) (Some Client) None)) n ∙ ap (λ b. cond b (Some Client) None) y) ∙ h)))
    (λ m. none_some (sym (ap (λ b. cond b (Some Own) (cond (same t (codes "cli")) (Some Client) None)) n ∙ ap (λ b. cond b (Some Client) None) m) ∙ h))
    (cases_Bool (same t (codes "cli"))))
    (cases_Bool (same t (codes "own")))

pub kind_made : (k : Kind) → kind_of (kind_text k) ≡ Some k
kind_made Own = refl
kind_made Client = refl

-- a kind holds no comma and no end of line
pub kind_without : (k : Kind) → Without 44 (kind_text k) × Without 10 (kind_text k)
kind_without Own = omega arith
kind_without Client = omega arith

-- the fields of an account's line, and the numbers that it can hold
abbrev pub account_parts : Account → Parts
account_parts a = (kind_text a.kind, decimal a.required ∷ decimal a.posted ∷ [])

pub record ShortMargins (a : Account) : Type 0 where
  pub required : Short a.required
  pub posted : Short a.posted

account_fields_back : (p : Parts) (a : Account) → account_fields p ≡ Some a → (p ≡ account_parts a) × ShortMargins a
account_fields_back (f, []) a h = none_some h
account_fields_back (f, g ∷ []) a h = none_some h
account_fields_back (f, g ∷ k ∷ []) a h =
    let c = some_back (kind_of f) _ _ h in
    let r = some_back (plain_of g) _ _ c.2 in
    let s = some_back (plain_of k) _ _ r.2 in
    let x = kind_back f c.0 c.1 in
    let y = plain_back g r.0 r.1 in
    let z = plain_back k s.0 s.1 in
    subst (λ (b : Account). (◌≡◌ {A = Parts} (f, g ∷ k ∷ []) (account_parts b)) × ShortMargins b) (some_same s.2)
    ((λ i. (x i, y.0 i ∷ z.0 i ∷ [])), record { required = y.1; posted = z.1 })
account_fields_back (f, g ∷ k ∷ l ∷ fs) a h = none_some h

pub account_back : (t : List ℕ) (a : Account) → account_fields (parted 44 t) ≡ Some a → (t ≡ glued 44 (account_parts a)) × ShortMargins a
account_back t a h =
    let r = account_fields_back (parted 44 t) a h in
    (sym (parted_back 44 t) ∙ ap (glued 44) r.0, r.1)

pub account_made : (a : Account) → ShortMargins a → account_fields (parted 44 (glued 44 (account_parts a))) ≡ Some a
account_made a h =
    ap account_fields (parted_made 44 (kind_text a.kind) (decimal a.required ∷ decimal a.posted ∷ []) (kind_without a.kind).0 (decimal_without 44 a.required (omega arith), (decimal_without 44 a.posted (omega arith), tt)))
    ∙ some_made _ _ a.kind _ (kind_made a.kind) (some_made _ _ a.required _ (plain_made a.required h.required) (some_made _ _ a.posted _ (plain_made a.posted h.posted) refl))
