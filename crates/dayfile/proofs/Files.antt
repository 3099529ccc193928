-- The whole file, both ways. Assumes nothing.
use Rattle.std.proofs.Common.{◌≡◌, ℕ, ◌+◌, ◌≤◌, leb, List, [], ◌∷◌, ◌++◌, map, length, ℤ, None, Ok, codes, sym, refl, ap, ◌∙◌, subst, arith}
use Rattle.std.specs.List.{flat_map, AllByRecursion}
use Rattle.std.proofs.lemmas.List.{length-append}
use Rattle.std.proofs.lemmas.Bool.{le-leb, leb-true}
use Rattle.terms.specs.Limits.{most_file_bytes}
use Rattle.figures.specs.declared.kinds.Position.{Position}
use Rattle.daytext.specs.Text.{decimal, signed_text, Short, Parts, parted, joined_by, glued}
use Rattle.daytext.proofs.Texts.{Without, without_append, decimal_without, signed_without, parted_back, ended, ended_append, lines_made, lines_back}
use Rattle.dayfile.specs.Days.{Entry, Day, head_lines, change_text, change_line, sheet_lines, kind_text, position_line, rest_lines, day_lines, written, taking, flat, zeros, rule_of, Good}
use Rattle.dayfile.specs.Reading.{head_read, sheet_read, run, file, reading}
use Rattle.dayfile.proofs.Steps.{ok_same, then_cases, want_cases, then_made, want_made, heading_limits, head_back, head_made}
use Rattle.dayfile.proofs.LineFields.{sheet_back, sheet_made, kind_without}
use Rattle.dayfile.proofs.Bodies.{body_back, body_made}

-- No line holds byte 10.
glued_without : (f : List ℕ) (fs : List (List ℕ)) → Without 10 f → AllByRecursion (Without 10) fs → Without 10 (glued 44 (f, fs))
glued_without f [] h k = without_append 10 f [] h tt
glued_without f (g ∷ fs) h k = without_append 10 f (44 ∷ (g ++ joined_by 44 fs)) h ((λ e. omega arith), glued_without g fs k.0 k.1)

changes_without : (zs : List ℤ) → AllByRecursion (Without 10) (map signed_text zs)
changes_without [] = tt
changes_without (z ∷ zs) = (signed_without 10 z (omega arith), changes_without zs)

change_without : (zs : List ℤ) → Without 10 (change_line zs)
change_without [] = omega arith
change_without (z ∷ zs) = without_append 10 (codes "chg=") (change_text (z ∷ zs)) (omega arith) (glued_without (signed_text z) (map signed_text zs) (signed_without 10 z (omega arith)) (changes_without zs))

plain_without : (key : List ℕ) (n : ℕ) → Without 10 key → Without 10 (key ++ decimal n)
plain_without key n h = without_append 10 key (decimal n) h (decimal_without 10 n (omega arith))

positions_without : (ps : List Position) (ls : List (List ℕ)) → AllByRecursion (Without 10) ls → AllByRecursion (Without 10) (map position_line ps ++ ls)
positions_without [] ls h = h
positions_without (p ∷ ps) ls h = (
  without_append 10 (codes "pos=") (glued 44 (decimal p.asset, signed_text p.quantity ∷ [])) (omega arith) (glued_without (decimal p.asset) (signed_text p.quantity ∷ []) (decimal_without 10 p.asset (omega arith)) (signed_without 10 p.quantity (omega arith), tt)),
  positions_without ps ls h,
)

rest_without : (es : List Entry) (k : ℕ) → AllByRecursion (Without 10) (rest_lines es k)
rest_without [] k = (plain_without (codes "end=") k (omega arith), tt)
rest_without (e ∷ es) k = (
  without_append 10 (codes "acc=") (glued 44 (kind_text e.account.kind, decimal e.account.required ∷ decimal e.account.posted ∷ [])) (omega arith)
      (glued_without (kind_text e.account.kind) (decimal e.account.required ∷ decimal e.account.posted ∷ []) (kind_without e.account.kind).1 (decimal_without 10 e.account.required (omega arith), (decimal_without 10 e.account.posted (omega arith), tt))),
  positions_without e.positions (rest_lines es k) (rest_without es k),
)

sheet_without : (zss : List (List ℤ)) (ls : List (List ℕ)) → AllByRecursion (Without 10) ls → AllByRecursion (Without 10) (map change_line zss ++ ls)
sheet_without [] ls h = h
sheet_without (zs ∷ zss) ls h = (change_without zs, sheet_without zss ls h)

day_without : (d : Day) → AllByRecursion (Without 10) (day_lines d)
day_without d = (
  plain_without (codes "form=") 1 (omega arith),
  (
    plain_without (codes "member=") d.head.member (omega arith),
    (
      plain_without (codes "segment=") d.head.segment (omega arith),
      (
        plain_without (codes "day=") d.head.day (omega arith),
        (
          plain_without (codes "scen=") d.head.scenarios (omega arith),
          (
            plain_without (codes "assets=") (length d.sheet) (omega arith),
            sheet_without d.sheet _ (rest_without d.accounts (length d.accounts)),
          ),
        ),
      ),
    ),
  ),
)

-- A file of so few bytes has few accounts.
rest_long : (es : List Entry) (k : ℕ) → length es ≤ length (rest_lines es k)
rest_long [] k = omega arith
rest_long (a ∷ es) k = simp length-append (omega (arith, rest_long es k))

lines_long : (ls : List (List ℕ)) → length ls ≤ length (flat_map (λ l. l ++ (10 ∷ [])) ls)
lines_long [] = omega arith
lines_long (l ∷ ls) = simp length-append (omega (arith, lines_long ls))

count_short : (d : Day) → length (written d) ≤ most_file_bytes → Short (length d.accounts)
count_short d h =
    omega (arith, rest_long d.accounts (length d.accounts), lines_long (day_lines d), length-append (map change_line d.sheet) (rest_lines d.accounts (length d.accounts)))

-- A good day is read back. The lines after the sheet, and those of the whole file in three pieces
abbrev body_lines : Day → Parts
body_lines d = ended (rest_lines d.accounts (length d.accounts)) ([], [])

parts_is : (d : Day) → ended (day_lines d) ([], []) ≡ ended (head_lines d.head) (ended (sheet_lines d.sheet) (body_lines d))
parts_is d =
    ap (ended (head_lines d.head)) (ended_append (sheet_lines d.sheet) (rest_lines d.accounts (length d.accounts)) ([], []))

file_made : (d : Day) → Good d → file (ended (head_lines d.head) (ended (sheet_lines d.sheet) (body_lines d))) ≡ Ok d
file_made d v =
    let scenarios : ℕ = d.head.scenarios in
    then_made (head_read (ended (head_lines d.head) (ended (sheet_lines d.sheet) (body_lines d)))) _ (d.head, ended (sheet_lines d.sheet) (body_lines d)) (head_made d.head (ended (sheet_lines d.sheet) (body_lines d)) v.head)
    (then_made (sheet_read scenarios (ended (sheet_lines d.sheet) (body_lines d))) _ (d.sheet, body_lines d) (sheet_made scenarios d.sheet (body_lines d) (heading_limits d.head v.head).scenarios.0 v.sheet)
    (then_made (run (rule_of d) [] zeros None (7 + length d.sheet) (body_lines d)) _ d.accounts
    (body_made (rule_of d) zeros (7 + length d.sheet) d.accounts v.accepted v.accounts (count_short d v.short))
    refl))

pub day_back : (d : Day) → Good d → reading (written d) ≡ Ok d
day_back d v =
    want_made (leb (length (written d)) most_file_bytes) _ _ (le-leb _ _ v.short)
    (ap file (lines_made (day_lines d) (day_without d) ∙ parts_is d) ∙ file_made d v)

-- What is read is what a good day writes.
pub day_only : (bytes : List ℕ) (d : Day) → reading bytes ≡ Ok d → Good d × (bytes ≡ written d)
day_only bytes d g =
    want_cases _ _ _ _ g λ short g₁.
    then_cases (head_read (parted 10 bytes)) _ _ g₁ λ h e₁ g₂.
    then_cases (sheet_read h.0.scenarios h.1) _ _ g₂ λ r e₂ g₃.
    then_cases (run (taking h.0.scenarios (flat r.0)) [] zeros None (7 + length r.0) r.1) _ _ g₃ λ es e₃ g₄.
    let d₀ : Day = record { head = h.0; sheet = r.0; accounts = es } in
    let a = head_back (parted 10 bytes) h e₁ in
    let b = sheet_back h.0.scenarios h.1 r e₂ in
    let c = body_back (rule_of d₀) zeros (7 + length r.0) r.1 es e₃ in
    let parts : parted 10 bytes ≡ ended (day_lines d₀) ([], []) = a.0 ∙ ap (ended (head_lines h.0)) (b.0 ∙ ap (ended (sheet_lines r.0)) c.lines) ∙ sym (parts_is d₀) in
    let is : bytes ≡ written d₀ = sym (parted_back 10 bytes) ∙ ap (glued 10) parts ∙ lines_back (day_lines d₀) in
    subst (λ e. Good e × (bytes ≡ written e)) (ok_same g₄) (
      record {
        head = a.1;
        sheet = b.1;
        accounts = c.sound;
        accepted = c.accepted;
        short = subst (λ l. length l ≤ most_file_bytes) is (leb-true _ _ short);
      },
      is,
    )

-- two good days with the same bytes are one
pub day_once : (d e : Day) → Good d → Good e → written d ≡ written e → d ≡ e
day_once d e v w h = ok_same (sym (day_back d v) ∙ ap reading h ∙ day_back e w)
