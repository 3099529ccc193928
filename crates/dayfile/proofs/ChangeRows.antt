-- The loop over the fields of a line of changes. Assumes nothing.
use Rattle.std.proofs.Common.{◌≡◌, ℕ, ◌+◌, ◌<◌, ◌≤◌, Bool, true, false, cond, ◌&&◌, eqb, List, [], ◌∷◌, ◌++◌, length, get_or, drop, set, ℤ, pos, unsigned_abs, Some, None, Ok, Err, Option, Result, sym, refl, ap, ◌∙◌, subst, arith, length-set}
use Rattle.std.specs.List.{list_all, slice_split, onto_first}
use Rattle.std.proofs.lemmas.Iterator.{YieldsList}
use Rattle.std.proofs.lemmas.List.{append_assoc, append-nil, length-append, at_drop_more, set_at, drop_all}
use Rattle.std.proofs.lemmas.Bool.{and_parts, eq-eqb, ne_eqb, le-leb, lt-leb, true≢false}
use Rattle.terms.specs.Limits.{change_limit}
use Rattle.terms.specs.declared.refusals.Refusal.TheVariants as refusals
use Rattle.dayreport.specs.declared.faults.Fault.{Fault}
use Rattle.dayreport.specs.declared.faults.Fault.TheVariants.{Line}
use Rattle.daytext.specs.Text.{Parts, parted, more, signed_of, fields_of}
use Rattle.figures.specs.Accounts.{change_ok}
use Rattle.dayfile.specs.Reading.{◌>>=◌, ◌>>◌, want, given, also, numbers, changes}
use Rattle.dayfile.specs.Seen.{RowRead}

-- what an iterator gives next, and that it ends
pub next_none : {S A B : Type 0} {steps : S → Option A → S → Type 0} {v : A → B} {s : S} (t : S) (ys : List B) → YieldsList steps v s ys → steps s None t → ys ≡ []
next_none t [] h n = refl
next_none t (y ∷ ys) h n = absurd (h.runs.0 t n)

pub next_some : {S A B : Type 0} {steps : S → Option A → S → Type 0} {v : A → B} {s : S} (t : S) (x : A) (ys : List B) → YieldsList steps v s ys → steps s (Some x) t → (zs : List B) × (ys ≡ v x ∷ zs) × YieldsList steps v t zs
next_some t x [] h n = absurd (h.runs x t n)
next_some t x (y ∷ ys) h n = let e = h.runs.1 x t n in (ys, ap (λ z. z ∷ ys) (sym e.0), record { runs = e.1 })

-- the fields of a text are its parts between commas
abbrev pub comma : ℕ → Bool
comma b = eqb b 44

fields_split : (t : List ℕ) → slice_split comma t ≡ fields_of t
fields_split [] = refl
fields_split (c ∷ cs) = ap (λ l. cond (comma c) ([] ∷ l) (onto_first c l)) (fields_split cs) ∙ by_byte (comma c)
  where
    p : Parts
    p = parted 44 cs

    by_byte : (b : Bool) → cond b ([] ∷ (p.0 ∷ p.1)) (onto_first c (p.0 ∷ p.1)) ≡ (cond b (more [] p) (c ∷ p.0, p.1)).0 ∷ (cond b (more [] p) (c ∷ p.0, p.1)).1
    by_byte true = refl
    by_byte false = refl

fields_few : (t : List ℕ) → length (fields_of t) ≤ length t + 1
fields_few [] = omega arith
fields_few (c ∷ cs) = omega (arith, by_byte (comma c), fields_few cs)
  where
    by_byte : (b : Bool) → length (cond b (more [] (parted 44 cs)) (c ∷ (parted 44 cs).0, (parted 44 cs).1)).1 ≤ length (parted 44 cs).1 + 1
    by_byte true = omega arith
    by_byte false = omega arith

abbrev pub prepended : List ℤ → Option (List ℤ) → Option (List ℤ)
prepended zs None = None
prepended zs (Some ws) = Some (zs ++ ws)

-- the changes zs were read of the text, and the fields that are left were not
pub record RowSofar (text : List ℕ) (old : List ℤ) (left : List (List ℕ)) (row : List ℤ) (k : ℕ) (ranged : Bool) (zs : List ℤ) : Type 0 where
  pub read : prepended zs (numbers left) ≡ numbers (fields_of text)
  pub count : k ≡ length zs
  pub small : ranged ≡ list_all change_ok zs
  pub filled : ranged ≡ true → k ≤ length old → row ≡ zs ++ drop k old
  pub long : length row ≡ length old
  pub fits : k + length left ≤ length text + 1

prepended_none : (o : Option (List ℤ)) → prepended [] o ≡ o
prepended_none None = refl
prepended_none (Some ws) = refl

pub row_start : (text : List ℕ) (old : List ℤ) → RowSofar text old (slice_split comma text) old 0 true []
row_start text old = subst (λ l. RowSofar text old l old 0 true []) (sym (fields_split text)) (record { read = prepended_none _; count = refl; small = refl; filled = λ _ _. refl; long = refl; fits = omega (arith, fields_few text) })

-- a change is put into its place, if it is in range and has one
pub record Put (row : List ℤ) (k : ℕ) (ranged : Bool) (z : ℤ) (row' : List ℤ) (ranged' : Bool) : Type 0 where
  pub small : ranged' ≡ (ranged && change_ok z)
  pub long : length row' ≡ length row
  pub placed : change_ok z ≡ true → k < length row → row' ≡ set row k z

and_true : (a b : Bool) → b ≡ true → a ≡ (a && b)
and_true true b e = sym e
and_true false b e = refl

and_false : (a b : Bool) → b ≡ false → false ≡ (a && b)
and_false true b e = sym e
and_false false b e = refl

module _ (row : List ℤ) (k : ℕ) (ranged : Bool) (z : ℤ) where
  module _ (row' : List ℤ) (ranged' : Bool) where
    pub put_in : row' ≡ set row k z → ranged' ≡ ranged → unsigned_abs z ≤ change_limit → Put row k ranged z row' ranged'
    put_in e f h = record { small = f ∙ and_true ranged (change_ok z) (le-leb _ _ h); long = ap length e ∙ length-set row k z; placed = λ _ _. e }

    pub put_past : row' ≡ row → ranged' ≡ ranged → unsigned_abs z ≤ change_limit → length row ≤ k → Put row k ranged z row' ranged'
    put_past e f h past = record { small = f ∙ and_true ranged (change_ok z) (le-leb _ _ h); long = ap length e; placed = λ _ lt. absurd (omega arith) }

    pub put_out : row' ≡ row → ranged' ≡ false → change_limit < unsigned_abs z → Put row k ranged z row' ranged'
    put_out e f h = let n = lt-leb _ _ h in record { small = f ∙ and_false ranged (change_ok z) n; long = ap length e; placed = λ y _. absurd (true≢false (sym y ∙ n)) }

all_push : (zs : List ℤ) (z : ℤ) → list_all change_ok (zs ++ z ∷ []) ≡ (list_all change_ok zs && change_ok z)
all_push [] z = both (change_ok z)
  where
    both : (b : Bool) → (b && true) ≡ b
    both true = refl
    both false = refl
all_push (y ∷ zs) z = ap (λ b. change_ok y && b) (all_push zs z) ∙ assoc (change_ok y) (list_all change_ok zs) (change_ok z)
  where
    assoc : (a b c : Bool) → (a && (b && c)) ≡ ((a && b) && c)
    assoc true b c = refl
    assoc false b c = refl

joins : (zs : List ℤ) (z : ℤ) (o : Option (List ℤ)) → prepended (zs ++ z ∷ []) o ≡ prepended zs (also (Some z) o)
joins zs z None = refl
joins zs z (Some ws) = ap Some (append_assoc zs (z ∷ []) ws)

abbrev changes_by : (scen n : ℕ) → Option (List ℤ) → Result (List ℤ) Fault
changes_by scen n o = ◌>>=◌ (given o (Line refusals.Field n)) (λ zs. ◌>>◌ (want (eqb (length zs) scen) (Line refusals.Count n)) (◌>>◌ (want (list_all change_ok zs) (Line refusals.Sheet n)) (Ok zs)))

module _ (text : List ℕ) (old : List ℤ) (left : List (List ℕ)) (row : List ℤ) (k : ℕ) (ranged : Bool) (zs : List ℤ) (s : RowSofar text old left row k ranged zs) where
  -- a field that is no number
  pub row_bad : (f : List ℕ) (fs : List (List ℕ)) (n : ℕ) → left ≡ f ∷ fs → None ≡ signed_of f → changes (length old) n text ≡ Err (Line refusals.Field n)
  row_bad f fs n e bad = ap (changes_by (length old) n) (sym s.read ∙ ap (λ l. prepended zs (numbers l)) e ∙ ap (λ o. prepended zs (also o (numbers fs))) (sym bad))

  -- one field more
  pub row_next : (f : List ℕ) (fs : List (List ℕ)) (z : ℤ) (row' : List ℤ) (ranged' : Bool) → left ≡ f ∷ fs → Some z ≡ signed_of f → Put row k ranged z row' ranged' → RowSofar text old fs row' (k + 1) ranged' (zs ++ z ∷ [])
  row_next f fs z row' ranged' e is p = record {
    read = joins zs z (numbers fs) ∙ ap (λ o. prepended zs (also o (numbers fs))) is ∙ sym (ap (λ l. prepended zs (numbers l)) e) ∙ s.read;
    count = simp length-append (omega (arith, s.count));
    small = p.small ∙ ap (λ b. b && change_ok z) s.small ∙ sym (all_push zs z);
    filled = λ t le.
        let both = and_parts ranged (change_ok z) (sym p.small ∙ t) in
        let lt : k < length old = omega arith in
        p.placed both.1 (omega (arith, s.long)) ∙ ap (λ l. set l k z) (s.filled both.0 (omega arith) ∙ at_drop_more (λ l. zs ++ l) old k (pos 0) lt)
        ∙ set_at zs (get_or old k (pos 0)) (drop (k + 1) old) z k (sym s.count) ∙ sym (append_assoc zs (z ∷ []) (drop (k + 1) old));
    long = p.long ∙ s.long;
    fits = omega (arith, s.fits, ap length e);
  }

  -- no field is left
  module _ (n : ℕ) (end : left ≡ []) where
    all_read : {r : Result (List ℤ) Fault} → changes_by (length old) n (Some zs) ≡ r → changes (length old) n text ≡ r
    all_read e = ap (changes_by (length old) n) (sym (ap (λ l. Some l) (sym (append-nil zs)) ∙ ap (λ l. prepended zs (numbers l)) (sym end) ∙ s.read)) ∙ e

    pub row_uneven : (k ≡ length row → ⊥) → changes (length old) n text ≡ Err (Line refusals.Count n)
    row_uneven h = all_read (ap (λ b. ◌>>◌ (want b (Line refusals.Count n)) (◌>>◌ (want (list_all change_ok zs) (Line refusals.Sheet n)) (Ok zs))) (ne_eqb (length zs) (length old) (λ e. h (s.count ∙ e ∙ sym s.long))))

    at_count : k ≡ length row → {r : Result (List ℤ) Fault} → ◌>>◌ (want (list_all change_ok zs) (Line refusals.Sheet n)) (Ok zs) ≡ r → changes (length old) n text ≡ r
    at_count h e = all_read (ap (λ b. ◌>>◌ (want b (Line refusals.Count n)) (◌>>◌ (want (list_all change_ok zs) (Line refusals.Sheet n)) (Ok zs))) (eq-eqb (length zs) (length old) (sym s.count ∙ h ∙ s.long)) ∙ e)

    pub row_wild : k ≡ length row → ranged ≡ false → changes (length old) n text ≡ Err (Line refusals.Sheet n)
    row_wild h f = at_count h (ap (λ b. ◌>>◌ (want b (Line refusals.Sheet n)) (Ok zs)) (sym s.small ∙ f))

    pub row_full : k ≡ length row → ranged ≡ true → (changes (length old) n text ≡ Ok zs) × (row ≡ zs)
    row_full h t = (
      at_count h (ap (λ b. ◌>>◌ (want b (Line refusals.Sheet n)) (Ok zs)) (sym s.small ∙ t)),
      s.filled t (omega (arith, s.long)) ∙ ap (λ l. zs ++ l) (drop_all k old (omega (arith, s.long))) ∙ append-nil zs,
    )

-- the row's answer
pub row_fault : {r : Result (List ℤ) Fault} {told : Result (Unit {0}) Fault} (e : Fault) (row : List ℤ) → told ≡ Err e → r ≡ Err e → RowRead r told row
row_fault {r} e row t h = subst (λ x. RowRead r x row) (sym t) (subst (λ x. RowRead x (Err e) row) (sym h) refl)

pub row_read : {r : Result (List ℤ) Fault} (zs row : List ℤ) → (r ≡ Ok zs) × (row ≡ zs) → RowRead r (Ok tt) row
row_read zs row h = subst (λ x. RowRead x (Ok tt) row) (sym h.0) h.1
