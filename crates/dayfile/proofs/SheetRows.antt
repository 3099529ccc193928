-- The line of one asset, and the lines of all of them. Assumes nothing.
use Rattle.std.proofs.Common.{◌≡◌, ℕ, suc, ◌+◌, ◌-◌, ◌*◌, ◌<◌, ◌≤◌, List, [], ◌∷◌, ◌++◌, length, take, drop, ℤ, Ok, Err, codes, Result, sym, refl, ap, ◌∙◌, subst, add-mul, one-mul, mul-le-mul_right, suc-mul, length-drop, arith}
use Rattle.std.proofs.lemmas.List.{append_assoc, append-nil, length-append, length-take-le, take_at, drop_at, drop-drop, flat_map_more}
use Rattle.std.proofs.lemmas.Bool.{eqb-true}
use Rattle.terms.specs.declared.refusals.Refusal.TheVariants as refusals
use Rattle.daytext.specs.Text.{Parts, parted}
use Rattle.dayreport.specs.declared.faults.Fault.{Fault}
use Rattle.dayreport.specs.declared.faults.Fault.TheVariants.{Line}
use Rattle.dayfile.specs.declared.lines.Lines.{Lines}
use Rattle.dayfile.specs.Days.{flat}
use Rattle.dayfile.specs.Reading.{◌>>=◌, given, next, numbers, changes, rows_read, assets_read, sheet_read}
use Rattle.dayfile.specs.Seen.{RowRead, AssetRead, SheetRead, asset_read}
use Rattle.dayfile.proofs.Steps.{err_ok, err_same, ok_same, then_cases, want_cases}

-- the line of an asset, once its text is found
pub asset_told : (scenarios n : ℕ) (p : Parts) (t : List ℕ) (l : Lines) (row : List ℤ) (told : Result (Unit {0}) Fault) → Ok (t, parted 10 l.rest.now) ≡ next (codes "chg=") n p → RowRead (changes scenarios n t) told row → AssetRead (asset_read scenarios n p) told l row
asset_told scenarios n p t l row told e h = subst (λ (x : Result (List ℕ × Parts) Fault). AssetRead (◌>>=◌ x (λ y. ◌>>=◌ (changes scenarios n y.0) (λ zs. Ok (zs, y.1)))) told l row) e (by_row (changes scenarios n t) told h)
  where
    by_row : (r : Result (List ℤ) Fault) (u : Result (Unit {0}) Fault) → RowRead r u row → AssetRead (◌>>=◌ r (λ zs. Ok (zs, parted 10 l.rest.now))) u l row
    by_row (Ok zs) (Ok u) g = (refl, g)
    by_row (Ok zs) (Err f) g = g
    by_row (Err f) (Ok u) g = g
    by_row (Err f) (Err k) g = g

-- Answers by the line of an asset, and by the lines that follow.
two_good : (r : Result (List ℕ × Parts) Fault) (c : List ℕ → Result (List ℤ) Fault) (k : List ℤ → Parts → Result (List (List ℤ) × Parts) Fault) (zs : List ℤ) (q : Parts) → ◌>>=◌ {B = List ℤ × Parts} r (λ t. ◌>>=◌ (c t.0) (λ x. Ok (x, t.1))) ≡ Ok (zs, q) → ◌>>=◌ r (λ t. ◌>>=◌ (c t.0) (λ x. k x t.1)) ≡ k zs q
two_good (Err e) c k zs q h = err_ok h
two_good (Ok t) c k zs q h = one (c t.0) h
  where
    one : (x : Result (List ℤ) Fault) → ◌>>=◌ {B = List ℤ × Parts} x (λ y. Ok (y, t.1)) ≡ Ok (zs, q) → ◌>>=◌ x (λ y. k y t.1) ≡ k zs q
    one (Err e) g = err_ok g
    one (Ok y) g = ap (λ (p : List ℤ × Parts). k p.0 p.1) (ok_same g)

two_bad : (r : Result (List ℕ × Parts) Fault) (c : List ℕ → Result (List ℤ) Fault) (k : List ℤ → Parts → Result (List (List ℤ) × Parts) Fault) (e : Fault) → ◌>>=◌ {B = List ℤ × Parts} r (λ t. ◌>>=◌ (c t.0) (λ x. Ok (x, t.1))) ≡ Err e → ◌>>=◌ r (λ t. ◌>>=◌ (c t.0) (λ x. k x t.1)) ≡ Err e
two_bad (Err f) c k e h = ap Err (err_same h)
two_bad (Ok t) c k e h = one (c t.0) h
  where
    one : (x : Result (List ℤ) Fault) → ◌>>=◌ {B = List ℤ × Parts} x (λ y. Ok (y, t.1)) ≡ Err e → ◌>>=◌ x (λ y. k y t.1) ≡ Err e
    one (Err f) g = ap Err (err_same g)
    one (Ok y) g = err_ok (sym g)

-- the asset's line as it is answered
abbrev follow : ℕ → ℕ → ℕ → List ℤ → Parts → Result (List (List ℤ) × Parts) Fault
follow scenarios k n zs q = ◌>>=◌ (rows_read scenarios k n q) (λ r. Ok (zs ∷ r.0, r.1))

rows_by_good : (scenarios k n : ℕ) (p : Parts) (zs : List ℤ) (q : Parts) → asset_read scenarios n p ≡ Ok (zs, q) → rows_read scenarios (suc k) n p ≡ follow scenarios k (n + 1) zs q
rows_by_good scenarios k n p zs q h = two_good (next (codes "chg=") n p) (changes scenarios n) (follow scenarios k (n + 1)) zs q h

rows_by_bad : (scenarios k n : ℕ) (p : Parts) (e : Fault) → asset_read scenarios n p ≡ Err e → rows_read scenarios (suc k) n p ≡ Err e
rows_by_bad scenarios k n p e h = two_bad (next (codes "chg=") n p) (changes scenarios n) (follow scenarios k (n + 1)) e h

-- an asset has a change for each scenario
asset_wide : (scenarios n : ℕ) (p : Parts) (zs : List ℤ) (q : Parts) → asset_read scenarios n p ≡ Ok (zs, q) → length zs ≡ scenarios
asset_wide scenarios n p zs q h =
    then_cases (next (codes "chg=") n p) _ _ h λ t e₁ g₁.
    then_cases (changes scenarios n t.0) _ _ g₁ λ ws e₂ g₂.
    then_cases (given (numbers ((parted 44 t.0).0 ∷ (parted 44 t.0).1)) (Line refusals.Field n)) _ _ e₂ λ vs e₃ g₃.
    want_cases _ _ _ _ g₃ λ count g₄.
    want_cases _ _ _ _ g₄ λ small g₅.
    let a : vs ≡ ws = ok_same g₅ in
    let b : ws ≡ zs = ap (λ (x : List ℤ × Parts). x.0) (ok_same g₂) in
    sym (ap length (a ∙ b)) ∙ eqb-true _ _ count

-- the row of an asset has a place for each scenario
pub row_wide : (scenarios a most : ℕ) (out : List ℤ) → a < most → most * scenarios ≤ length out → length (take (a * scenarios + scenarios - a * scenarios) (drop (a * scenarios) out)) ≡ scenarios
row_wide scenarios a most out lt room =
    let within = mul-le-mul_right {m = suc a} {n = most} scenarios (omega arith) in
    let fits : a * scenarios + scenarios ≤ length out = omega (arith, within, suc-mul a scenarios) in
    length-take-le (a * scenarios + scenarios - a * scenarios) (drop (a * scenarios) out) (simp length-drop (omega (arith, fits))) ∙ omega arith

-- What the loop over assets keeps.
abbrev before : List (List ℤ) → Result (List (List ℤ) × Parts) Fault → Result (List (List ℤ) × Parts) Fault
before zss (Ok r) = Ok (zss ++ r.0, r.1)
before zss (Err e) = Err e

pub record RowsSofar (scenarios assets : ℕ) (first : List ℕ) (old : List ℤ) (a : ℕ) (rest : List ℕ) (new : List ℤ) (zss : List (List ℤ)) : Type 0 where
  pub read : before zss (rows_read scenarios (assets - a) (7 + a) (parted 10 rest)) ≡ rows_read scenarios assets 7 (parted 10 first)
  pub count : length zss ≡ a
  pub wide : length (flat zss) ≡ a * scenarios
  pub filled : new ≡ flat zss ++ drop (a * scenarios) old

before_more : (zss : List (List ℤ)) (zs : List ℤ) (r : Result (List (List ℤ) × Parts) Fault) → before (zss ++ zs ∷ []) r ≡ before zss (◌>>=◌ r (λ x. Ok (zs ∷ x.0, x.1)))
before_more zss zs (Ok x) = ap (λ l. Ok (l, x.1)) (append_assoc zss (zs ∷ []) x.0)
before_more zss zs (Err e) = refl

flat_more : (zss : List (List ℤ)) (zs : List ℤ) → flat (zss ++ zs ∷ []) ≡ flat zss ++ zs
flat_more zss zs = sym (flat_map_more (λ (l : List ℤ). l) [] zss zs)

good_asset : (r : Result (List ℤ × Parts) Fault) (l : Lines) (row : List ℤ) → AssetRead r (Ok tt) l row → r ≡ Ok (row, parted 10 l.rest.now)
good_asset (Ok x) l row h = (λ i. Ok (sym h.1 i, sym h.0 i))
good_asset (Err e) l row h = absurd h

bad_asset : (r : Result (List ℤ × Parts) Fault) (e : Fault) (l : Lines) (row : List ℤ) → AssetRead r (Err e) l row → r ≡ Err e
bad_asset (Ok x) e l row h = absurd h
bad_asset (Err f) e l row h = ap Err (sym h)

module _ (scenarios assets : ℕ) (first : List ℕ) (old : List ℤ) (a : ℕ) (rest : List ℕ) (new : List ℤ) (zss : List (List ℤ)) (s : RowsSofar scenarios assets first old a rest new zss) where
  -- line m is that of asset a, and its row has n places
  module _ (m n : ℕ) (at : m ≡ 7 + a) (lt : a < assets) (even : n ≡ scenarios) where
    here : {r : Result (List ℤ × Parts) Fault} → asset_read n m (parted 10 rest) ≡ r → asset_read scenarios (7 + a) (parted 10 rest) ≡ r
    here e = (λ i. asset_read (sym even i) (sym at i) (parted 10 rest)) ∙ e

    pub rows_bad : (e : Fault) (l : Lines) (row : List ℤ) → AssetRead (asset_read n m (parted 10 rest)) (Err e) l row → rows_read scenarios assets 7 (parted 10 first) ≡ Err e
    rows_bad e l row h =
        let less : assets - a ≡ suc (assets - (a + 1)) = omega arith in
        sym s.read ∙ ap (λ k. before zss (rows_read scenarios k (7 + a) (parted 10 rest))) less
        ∙ ap (before zss) (rows_by_bad scenarios (assets - (a + 1)) (7 + a) (parted 10 rest) e (here (bad_asset _ e l row h)))

  module _ (rest' : List ℕ) (zs : List ℤ) (k : ℕ) (lt : a < assets) (even : k ≡ scenarios) (e : asset_read scenarios (7 + a) (parted 10 rest) ≡ Ok (zs, parted 10 rest')) where
    place : a * scenarios + k ≡ (a + 1) * scenarios
    place = omega (arith, add-mul a 1 scenarios, one-mul scenarios)

    rows_step : RowsSofar scenarios assets first old (a + 1) rest' (take (a * scenarios) new ++ (zs ++ drop k (drop (a * scenarios) new))) (zss ++ zs ∷ [])
    rows_step =
        let less : assets - a ≡ suc (assets - (a + 1)) = omega arith in
        let line : 7 + (a + 1) ≡ 7 + a + 1 = omega arith in
        record {
          read = before_more zss zs _
              ∙ ap (λ n. before zss (follow scenarios (assets - (a + 1)) n zs (parted 10 rest'))) line
              ∙ ap (before zss) (sym (rows_by_good scenarios (assets - (a + 1)) (7 + a) (parted 10 rest) zs (parted 10 rest') e))
              ∙ ap (λ k. before zss (rows_read scenarios k (7 + a) (parted 10 rest))) (sym less)
              ∙ s.read;
          count = simp length-append (omega (arith, s.count));
          wide = ap length (flat_more zss zs) ∙ length-append (flat zss) zs ∙ (λ i. s.wide i + (asset_wide scenarios (7 + a) (parted 10 rest) zs (parted 10 rest') e ∙ sym even) i) ∙ place;
          filled = ap (λ l. take (a * scenarios) l ++ (zs ++ drop k (drop (a * scenarios) l))) s.filled
              ∙ (λ i. take_at (flat zss) (drop (a * scenarios) old) (a * scenarios) s.wide i ++ (zs ++ drop k (drop_at (flat zss) (drop (a * scenarios) old) (a * scenarios) s.wide i)))
              ∙ sym (append_assoc (flat zss) zs (drop k (drop (a * scenarios) old)))
              ∙ (λ i. sym (flat_more zss zs) i ++ drop-drop k (a * scenarios) old i)
              ∙ ap (λ j. flat (zss ++ zs ∷ []) ++ drop j old) place;
        }

  pub rows_next : (m n k : ℕ) (l : Lines) (row : List ℤ) → m ≡ 7 + a → a < assets → n ≡ scenarios → k ≡ scenarios → AssetRead (asset_read n m (parted 10 rest)) (Ok tt) l row → RowsSofar scenarios assets first old (a + 1) l.rest.now (take (a * scenarios) new ++ (row ++ drop k (drop (a * scenarios) new))) (zss ++ row ∷ [])
  rows_next m n k l row at lt even w h = rows_step l.rest.now row k lt w (here m n at lt even (good_asset (asset_read n m (parted 10 rest)) l row h))

  pub rows_all : a ≡ assets → rows_read scenarios assets 7 (parted 10 first) ≡ Ok (zss, parted 10 rest)
  rows_all e =
      let none : assets - a ≡ 0 = omega arith in
      sym s.read ∙ ap (λ k. before zss (rows_read scenarios k (7 + a) (parted 10 rest))) none ∙ ap (λ l. Ok (l, parted 10 rest)) (append-nil zss)

-- The whole sheet, by the count of assets and their lines.
module _ (scenarios : ℕ) (bytes first : List ℕ) (assets : ℕ) (counted : Ok (assets, parted 10 first) ≡ assets_read (parted 10 bytes)) where
  pub sheet_by : {r : Result (List (List ℤ) × Parts) Fault} → rows_read scenarios assets 7 (parted 10 first) ≡ r → sheet_read scenarios (parted 10 bytes) ≡ r
  sheet_by e = ap (λ (x : Result (ℕ × Parts) Fault). ◌>>=◌ x (λ y. rows_read scenarios y.0 7 y.1)) (sym counted) ∙ e

  pub sheet_good : (old new : List ℤ) (l : Lines) (zss : List (List ℤ)) (a : ℕ) → a ≡ assets → RowsSofar scenarios assets first old a l.rest.now new zss → SheetRead scenarios (sheet_read scenarios (parted 10 bytes)) old (Ok assets) l new
  sheet_good old new l zss a e sofar =
      let s = subst (λ k. RowsSofar scenarios assets first old k l.rest.now new zss) e sofar in
      subst (λ r. SheetRead scenarios r old (Ok assets) l new) (sym (sheet_by (rows_all scenarios assets first old assets l.rest.now new zss s refl)))
      (sym s.count, refl, s.filled ∙ ap (λ k. flat zss ++ drop k old) (sym s.wide), s.wide)
