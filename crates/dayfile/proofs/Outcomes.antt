-- The whole file by its parts, and the answer that is made of them. Assumes nothing.
use Rattle.std.proofs.Common.{◌≡◌, ℕ, ◌+◌, ◌*◌, ◌≤◌, true, false, cond, leb, List, [], ◌++◌, length, take, drop, ℤ, pos, None, Ok, Err, Result, sym, refl, ap, ◌∙◌, subst}
use Rattle.std.proofs.lemmas.List.{take_at}
use Rattle.std.specs.Result.{is_err}
use Rattle.std.proofs.lemmas.Bool.{le-leb, true≢false}
use Rattle.terms.specs.Limits.{most_changes, most_file_bytes, most_positions}
use Rattle.terms.specs.Refusing.{first_refusal}
use Rattle.terms.specs.declared.refusals.Refusal.TheVariants as refusals
use Rattle.figures.specs.declared.kinds.Figure.{Figure}
use Rattle.figures.specs.declared.kinds.Numbers.{Numbers}
use Rattle.figures.specs.declared.kinds.Position.{Position}
use Rattle.figures.specs.Headings.{heading_tests}
use Rattle.figures.specs.Strikes.{numbers_of}
use Rattle.daytext.specs.Text.{Parts, parted}
use Rattle.dayreport.specs.declared.faults.Fault.{Fault}
use Rattle.dayreport.specs.declared.faults.Fault.TheVariants.{Line}
use Rattle.dayfile.specs.declared.head.Head.{Head}
use Rattle.dayfile.specs.declared.lines.Lines.{Lines}
use Rattle.dayfile.specs.Days.{Day, Entry, Good, Rule, figure_of, flat, taking, tallied, written, zeros}
use Rattle.dayfile.specs.Reading.{◌>>=◌, ◌>>◌, head_read, headed, lines_read, reading, run, sheet_read}
use Rattle.dayfile.specs.Outcome.{DayRead, Exactly, Outcome, answer_of, changes_after, figured, lengths_ok, nothing_held, padded, positions_after}
use Rattle.dayfile.specs.Seen.{BodyRead, SheetRead, last_of}
use Rattle.dayfile.proofs.Files.{day_back, day_once, day_only}
use Rattle.dayfile.proofs.Steps.{err_ok, ok_same, then_made, want_made}

pub fault_told : (bytes : List ℕ) (r : Result Figure Fault) (e : Fault) (changes : List ℤ) (positions : List Position) → r ≡ Err e → reading bytes ≡ Err e → DayRead (reading bytes) r changes positions
fault_told bytes r e changes positions a b = subst (λ y. DayRead (reading bytes) y changes positions) (sym a) (subst (λ y. DayRead y (Err e) changes positions) (sym b) refl)

-- each part of the file answers in its turn
abbrev by_head : Result (Head × Parts) Fault → Result Day Fault
by_head r = ◌>>=◌ r (λ h. ◌>>=◌ (sheet_read h.0.scenarios h.1) (λ s. ◌>>=◌ (run (taking h.0.scenarios (flat s.0)) [] zeros None (7 + length s.0) s.1) (λ es. Ok (record { head = h.0; sheet = s.0; accounts = es }))))

abbrev by_sheet : Head → Result (List (List ℤ) × Parts) Fault → Result Day Fault
by_sheet h r = ◌>>=◌ r (λ s. ◌>>=◌ (run (taking h.scenarios (flat s.0)) [] zeros None (7 + length s.0) s.1) (λ es. Ok (record { head = h; sheet = s.0; accounts = es })))

abbrev by_body : Head → List (List ℤ) → Result (List Entry) Fault → Result Day Fault
by_body h zss r = ◌>>=◌ r (λ es. Ok (record { head = h; sheet = zss; accounts = es }))

module _ (bytes : List ℕ) (short : length bytes ≤ most_file_bytes) where
  by_lines : {r : Result (Head × Parts) Fault} → head_read (parted 10 bytes) ≡ r → reading bytes ≡ by_head r
  by_lines e = want_made (leb (length bytes) most_file_bytes) _ _ (le-leb _ _ short) (ap by_head e)

  module _ (h : Head) (rest : List ℕ) (lines : lines_read (parted 10 bytes) ≡ Ok (h, parted 10 rest)) where
    by_test : {u : Result (Unit {0}) Fault} → headed (first_refusal (heading_tests h.member h.segment h.day h.scenarios)) ≡ u → head_read (parted 10 bytes) ≡ ◌>>◌ u (Ok (h, parted 10 rest))
    by_test e = then_made (lines_read (parted 10 bytes)) _ (h, parted 10 rest) lines (ap (λ u. ◌>>◌ u (Ok (h, parted 10 rest))) e)

    module _ (good : headed (first_refusal (heading_tests h.member h.segment h.day h.scenarios)) ≡ Ok tt) where
      by_rows : {r : Result (List (List ℤ) × Parts) Fault} → sheet_read h.scenarios (parted 10 rest) ≡ r → reading bytes ≡ by_sheet h r
      by_rows e = by_lines (by_test good) ∙ ap (by_sheet h) e

      module _ (zss : List (List ℤ)) (q : Parts) (sheet : sheet_read h.scenarios (parted 10 rest) ≡ Ok (zss, q)) where
        pub body_bad : (e : Fault) → run (taking h.scenarios (flat zss)) [] zeros None (7 + length zss) q ≡ Err e → reading bytes ≡ Err e
        body_bad e g = by_rows sheet ∙ ap (by_body h zss) g

        pub body_good : (es : List Entry) → run (taking h.scenarios (flat zss)) [] zeros None (7 + length zss) q ≡ Ok es → reading bytes ≡ Ok (record { head = h; sheet = zss; accounts = es })
        body_good es g = by_rows sheet ∙ ap (by_body h zss) g

pub record Filled (n : ℕ) (r : Result (List (List ℤ) × Parts) Fault) (old : List ℤ) (k : ℕ) (rest : List ℕ) (new : List ℤ) (zss : List (List ℤ)) : Type 0 where
  pub is : r ≡ Ok (zss, parted 10 rest)
  pub assets : k ≡ length zss
  pub front : new ≡ flat zss ++ drop (length (flat zss)) old
  pub wide : length (flat zss) ≡ k * n

pub sheet_filled : (n : ℕ) (r : Result (List (List ℤ) × Parts) Fault) (old : List ℤ) (k : ℕ) (l : Lines) (new : List ℤ) → SheetRead n r old (Ok k) l new → (zss : List (List ℤ)) × Filled n r old k l.rest.now new zss
sheet_filled n (Ok x) old k l new h = (x.0, record { is = ap (λ q. Ok (x.0, q)) (sym h.1); assets = h.0; front = h.2; wide = h.3 })
sheet_filled n (Err f) old k l new h = absurd h

pub body_fault : (add : Rule) (columns : List ℕ) (r : Result (List Entry) Fault) (e : Fault) (held : List Position) (new : List ℕ) → BodyRead add columns r (Err e) held new → r ≡ Err e
body_fault add columns (Ok x) e held new h = absurd h
body_fault add columns (Err f) e held new h = ap Err (sym h)

pub body_read : (add : Rule) (columns : List ℕ) (r : Result (List Entry) Fault) (k : ℕ) (held : List Position) (new : List ℕ) → BodyRead add columns r (Ok k) held new → (all : List Entry) × (r ≡ Ok all) × (take k held ≡ last_of all) × (new ≡ tallied add columns all)
body_read add columns (Ok all) k held new h = (all, refl, h.0, h.1)
body_read add columns (Err f) k held new h = absurd h

-- the body's answer, told of equal beginnings
pub body_at : (n n' : ℕ) (sheet sheet' : List ℤ) (columns columns' : List ℕ) (first first' : ℕ) (p : Parts) (r : Result ℕ Fault) (held : List Position) (new : List ℕ) → n ≡ n' → sheet ≡ sheet' → columns ≡ columns' → first ≡ first'
    → BodyRead (taking n sheet) columns (run (taking n sheet) [] columns None first p) r held new → BodyRead (taking n' sheet') columns' (run (taking n' sheet') [] columns' None first' p) r held new
body_at n n' sheet sheet' columns columns' first first' p r held new a b c d h =
    subst (λ x. BodyRead (taking x sheet') columns' (run (taking x sheet') [] columns' None first' p) r held new) a
    (subst (λ x. BodyRead (taking n x) columns' (run (taking n x) [] columns' None first' p) r held new) b
    (subst (λ x. BodyRead (taking n sheet) x (run (taking n sheet) [] x None first' p) r held new) c
    (subst (λ x. BodyRead (taking n sheet) columns (run (taking n sheet) [] columns None x p) r held new) d h)))

-- the front of the caller's list is the sheet
pub sheet_front : {n : ℕ} {r : Result (List (List ℤ) × Parts) Fault} {old : List ℤ} {k : ℕ} {rest : List ℕ} {new : List ℤ} {zss : List (List ℤ)} → Filled n r old k rest new zss → take (k * n) new ≡ flat zss
sheet_front {n} {r} {old} {k} {rest} {new} {zss} f = ap (take (k * n)) f.front ∙ take_at (flat zss) (drop (length (flat zss)) old) (k * n) f.wide

-- the day is told by its figure, sheet and last positions
pub day_told : (bytes : List ℕ) (d : Day) (f : Figure) (changes : List ℤ) (positions : List Position) → reading bytes ≡ Ok d → numbers_of f ≡ figure_of d → changes ≡ padded (pos 0) most_changes (flat d.sheet) → positions ≡ padded nothing_held most_positions (last_of d.accounts) → DayRead (reading bytes) (Ok f) changes positions
day_told bytes d f changes positions e a b c = subst (λ y. DayRead y (Ok f) changes positions) (sym e) (a, b, c)

-- What is left to the caller.
module _ (bytes : List ℕ) (changes : List ℤ) (positions : List Position) where
  module _ (ok : lengths_ok changes positions ≡ true) where
    outcome_by : (r : Result Figure Fault) (changes' : List ℤ) (positions' : List Position) → answer_of r ≡ figured (reading bytes) → changes' ≡ changes_after (reading bytes) → positions' ≡ positions_after (reading bytes) → Outcome bytes changes positions r changes' positions'
    outcome_by r changes' positions' a b c = record {
      answer = a ∙ sym (ap (λ t. cond t (figured (reading bytes)) (Err (Line refusals.Lengths 1))) ok);
      sheet = b ∙ sym (ap (λ t. cond t (changes_after (reading bytes)) changes) ok);
      last = c ∙ sym (ap (λ t. cond t (positions_after (reading bytes)) positions) ok);
    }

    read_good : (f : Figure) (changes' : List ℤ) (positions' : List Position) → DayRead (reading bytes) (Ok f) changes' positions' → Outcome bytes changes positions (Ok f) changes' positions'
    read_good f changes' positions' h = outcome_by (Ok f) changes' positions' (told_good (reading bytes) h).0 (told_good (reading bytes) h).1 (told_good (reading bytes) h).2
      where
        told_good : (d : Result Day Fault) → DayRead d (Ok f) changes' positions' → (answer_of (Ok f) ≡ figured d) × (changes' ≡ changes_after d) × (positions' ≡ positions_after d)
        told_good (Ok d) g = (ap Ok g.0, g.1, g.2)
        told_good (Err e) g = absurd g

    read_bad : (e : Fault) (some : List ℤ) (held : List Position) (changes' : List ℤ) (positions' : List Position) → DayRead (reading bytes) (Err e) some held → changes' ≡ padded (pos 0) most_changes [] → positions' ≡ padded nothing_held most_positions [] → Outcome bytes changes positions (Err e) changes' positions'
    read_bad e some held changes' positions' h a b =
        let is : reading bytes ≡ Err e = told_bad (reading bytes) h in
        outcome_by (Err e) changes' positions' (ap figured (sym is)) (a ∙ ap changes_after (sym is)) (b ∙ ap positions_after (sym is))
      where
        told_bad : (d : Result Day Fault) → DayRead d (Err e) some held → d ≡ Err e
        told_bad (Ok d) g = absurd g
        told_bad (Err f) g = ap Err (sym g)

    -- the lists stay after a figure, and are cleared after a fault
    pub read_left : (r : Result Figure Fault) (changes' : List ℤ) (positions' : List Position) → is_err r ≡ false → DayRead (reading bytes) r changes' positions' → Outcome bytes changes positions r changes' positions'
    read_left (Ok f) changes' positions' e h = read_good f changes' positions' h
    read_left (Err f) changes' positions' e h = absurd (true≢false e)

    pub read_cleared : (r : Result Figure Fault) (some : List ℤ) (held : List Position) (changes' : List ℤ) (positions' : List Position) → is_err r ≡ true → DayRead (reading bytes) r some held → changes' ≡ padded (pos 0) most_changes [] → positions' ≡ padded nothing_held most_positions [] → Outcome bytes changes positions r changes' positions'
    read_cleared (Ok f) some held changes' positions' e h a b = absurd (true≢false (sym e))
    read_cleared (Err f) some held changes' positions' e h a b = read_bad f some held changes' positions' h a b

    -- the answer is that of a good day that writes the bytes
    pub exactly : (r : Result Figure Fault) (changes' : List ℤ) (positions' : List Position) → Outcome bytes changes positions r changes' positions' → Exactly bytes (answer_of r)
    exactly r changes' positions' o = record {
      good = λ d g e. is ∙ ap (λ bs. figured (reading bs)) e ∙ ap figured (day_back d g);
      only = λ f h. found f (reading bytes) refl (sym is ∙ h);
      once = λ d e g g' p q. day_once d e g g' (sym p ∙ q);
    }
      where
        is : answer_of r ≡ figured (reading bytes)
        is = o.answer ∙ ap (λ t. cond t (figured (reading bytes)) (Err (Line refusals.Lengths 1))) ok

        found : (f : Numbers) (d : Result Day Fault) → reading bytes ≡ d → figured d ≡ Ok f → (x : Day) × Good x × (bytes ≡ written x) × (f ≡ figure_of x)
        found f (Ok d) e h = (d, (day_only bytes d e).0, (day_only bytes d e).1, sym (ok_same h))
        found f (Err g) e h = err_ok h
