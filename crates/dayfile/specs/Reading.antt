-- Reading: what is checked, in order, and the first fault.
use Rattle.std.specs.Prelude.{ℕ, zero, suc, ◌+◌, Bool, true, false, cond, List, [], ◌∷◌, ◌++◌, length, ℤ, Some, None, Ok, Err, codes, Option, Result, ◌==◌, nat_le, nat_lt}
use Rattle.std.specs.List.{list_all}
use Rattle.terms.specs.Limits.{within, most_assets, most_positions, most_file_bytes}
use Rattle.terms.specs.Refusing.{first_refusal}
use Rattle.terms.specs.declared.refusals.Refusal.{Refusal}
use Rattle.terms.specs.declared.refusals.Refusal.TheVariants as refusals
use Rattle.figures.specs.declared.kinds.Kind.{Kind}
use Rattle.figures.specs.declared.kinds.Kind.TheVariants.{Own, Client}
use Rattle.figures.specs.declared.kinds.Account.{Account}
use Rattle.figures.specs.declared.kinds.Position.{Position}
use Rattle.figures.specs.Headings.{heading_tests}
use Rattle.figures.specs.Accounts.{change_ok}
use Rattle.daytext.specs.Text.{plain_of, signed_of, Parts, parted, after, same}
use Rattle.dayfile.specs.declared.head.Head.{Head}
use Rattle.dayreport.specs.declared.faults.Fault.{Fault}
use Rattle.dayreport.specs.declared.faults.Fault.TheVariants.{Line, Heading, Tally}
use Rattle.dayfile.specs.Days.{Entry, Day, Rule, taking, flat, zeros}

-- One check after another: the first that fails is told.
abbrev pub ◌>>=◌ : {A B : Type 0} → Result A Fault → (A → Result B Fault) → Result B Fault
◌>>=◌ (Ok a) f = f a
◌>>=◌ (Err e) f = Err e

abbrev pub ◌>>◌ : {B : Type 0} → Result (Unit {0}) Fault → Result B Fault → Result B Fault
◌>>◌ (Ok u) r = r
◌>>◌ (Err e) r = Err e

abbrev pub want : Bool → Fault → Result (Unit {0}) Fault
want true e = Ok tt
want false e = Err e

abbrev pub given : {A : Type 0} → Option A → Fault → Result A Fault
given (Some a) e = Ok a
given None e = Err e

abbrev pub maybe : {A B : Type 0} → Option A → (A → B) → B → B
maybe (Some a) f d = f a
maybe None f d = d

-- Lines stand as the first one and those after it; the last of them has no byte 10.

-- line n with this key: what follows the key, and the lines after it
abbrev pub next : List ℕ → ℕ → Parts → Result (List ℕ × Parts) Fault
next key n (l, []) = Err (Line refusals.Key n)
next key n (l, m ∷ ls) = do
  t ← given (after key l) (Line refusals.Key n)
  Ok (t, (m, ls))

-- line n with this key and one number
abbrev pub numbered : List ℕ → ℕ → Parts → Result (ℕ × Parts) Fault
numbered key n p = do
  t ← next key n p
  k ← given (plain_of t.0) (Line refusals.Field n)
  Ok (k, t.1)

-- Lines 1 to 5, and then the heading itself.
abbrev pub headed : Option Refusal → Result (Unit {0}) Fault
headed None = Ok tt
headed (Some r) = Err (Heading r 5)

abbrev pub lines_read : Parts → Result (Head × Parts) Fault
lines_read p = do
  f ← numbered (codes "form=") 1 p
  want (f.0 == 1) (Line refusals.Field 1)
  m ← numbered (codes "member=") 2 f.1
  s ← numbered (codes "segment=") 3 m.1
  d ← numbered (codes "day=") 4 s.1
  c ← numbered (codes "scen=") 5 d.1
  Ok (record { member = m.0; segment = s.0; day = d.0; scenarios = c.0 }, c.1)

abbrev pub head_read : Parts → Result (Head × Parts) Fault
head_read p = do
  h ← lines_read p
  headed (first_refusal (heading_tests h.0.member h.0.segment h.0.day h.0.scenarios))
  Ok h

-- The sheet: line 6 counts the assets, and a line of changes follows for each.
abbrev pub also : {A : Type 0} → Option A → Option (List A) → Option (List A)
also None r = None
also (Some z) None = None
also (Some z) (Some zs) = Some (z ∷ zs)

-- all fields are numbers
abbrev pub numbers : List (List ℕ) → Option (List ℤ)
numbers [] = Some []
numbers (f ∷ fs) = also (signed_of f) (numbers fs)

-- one asset's changes, at line n
abbrev pub changes : ℕ → ℕ → List ℕ → Result (List ℤ) Fault
changes scenarios n t = do
  zs ← given (numbers ((parted 44 t).0 ∷ (parted 44 t).1)) (Line refusals.Field n)
  want (length zs == scenarios) (Line refusals.Count n)
  want (list_all change_ok zs) (Line refusals.Sheet n)
  Ok zs

abbrev pub rows_read : ℕ → ℕ → ℕ → Parts → Result (List (List ℤ) × Parts) Fault
rows_read scenarios zero n p = Ok ([], p)
rows_read scenarios (suc k) n p = do
  t ← next (codes "chg=") n p
  zs ← changes scenarios n t.0
  r ← rows_read scenarios k (n + 1) t.1
  Ok (zs ∷ r.0, r.1)

abbrev pub assets_read : Parts → Result (ℕ × Parts) Fault
assets_read p = do
  a ← numbered (codes "assets=") 6 p
  want (within 1 most_assets a.0) (Line refusals.Sheet 6)
  Ok a

abbrev pub sheet_read : ℕ → Parts → Result (List (List ℤ) × Parts) Fault
sheet_read scenarios p = do
  a ← assets_read p
  rows_read scenarios a.0 7 a.1

-- The lines after the sheet: accounts, positions and the end.
abbrev pub position_fields : Parts → Option Position
position_fields (f, []) = None
position_fields (f, g ∷ []) = maybe (plain_of f) (λ a. maybe (signed_of g) (λ q. Some (record { asset = a; quantity = q })) None) None
position_fields (f, g ∷ h ∷ fs) = None

abbrev pub kind_of : List ℕ → Option Kind
kind_of t = cond (same t (codes "own")) (Some Own) (cond (same t (codes "cli")) (Some Client) None)

abbrev pub account_fields : Parts → Option Account
account_fields (f, []) = None
account_fields (f, g ∷ []) = None
account_fields (f, g ∷ h ∷ []) = maybe (kind_of f) (λ k. maybe (plain_of g) (λ r. maybe (plain_of h) (λ p. Some (record { kind = k; required = r; posted = p })) None) None) None
account_fields (f, g ∷ h ∷ i ∷ fs) = None

-- the account in hand, and the line it stands at
pub record Hand : Type 0 where
  pub line : ℕ
  pub entry : Entry

abbrev pub placed : Hand → Position → Hand
placed h q = record { line = h.line; entry = record { account = h.entry.account; positions = h.entry.positions ++ (q ∷ []) } }

-- a refusal of the tally is told at the account's line
abbrev pub told : Result (List ℕ) Refusal → ℕ → Result (List ℕ) Fault
told (Ok c) n = Ok c
told (Err e) n = Err (Tally e n)

-- the accounts so far and the columns, once the account in hand is added
abbrev pub settled : Rule → List Entry → List ℕ → Option Hand → Result (List Entry × List ℕ) Fault
settled add done columns None = Ok (done, columns)
settled add done columns (Some h) = do
  new ← told (add columns h.entry) h.line
  Ok (done ++ (h.entry ∷ []), new)

-- no byte follows
abbrev pub nothing : List ℕ → List (List ℕ) → Bool
nothing [] [] = true
nothing [] (l ∷ ls) = false
nothing (c ∷ cs) ls = false

-- Line n is l, and the lines ls follow. A line that begins pos= belongs to the account in hand; before any other, and at the
-- end of the input, that account is added.
abbrev pub body : Rule → List Entry → List ℕ → Option Hand → ℕ → List ℕ → List (List ℕ) → Result (List Entry) Fault
body add done columns hand n l [] =
    maybe (after (codes "pos=") l)
    (λ t. Err (Line refusals.Key n))
    (do
      s ← settled add done columns hand
      Err (Line refusals.Key n))
body add done columns hand n l (m ∷ ls) =
    maybe (after (codes "pos=") l)
    (λ t. do
      h ← given hand (Line refusals.Key n)
      q ← given (position_fields (parted 44 t)) (Line refusals.Field n)
      want (nat_lt (length h.entry.positions) most_positions) (Tally refusals.Positions h.line)
      body add done columns (Some (placed h q)) (n + 1) m ls)
    (do
      s ← settled add done columns hand
      maybe (after (codes "acc=") l)
          (λ t. do
            a ← given (account_fields (parted 44 t)) (Line refusals.Field n)
            body add s.0 s.1 (Some (record { line = n; entry = record { account = a; positions = [] } })) (n + 1) m ls)
          (do
            t ← given (after (codes "end=") l) (Line refusals.Key n)
            k ← given (plain_of t) (Line refusals.Field n)
            want (k == length s.0) (Line refusals.Count n)
            want (nothing m ls) (Line refusals.TooLong (n + 1))
            Ok s.0))

abbrev pub run : Rule → List Entry → List ℕ → Option Hand → ℕ → Parts → Result (List Entry) Fault
run add done columns hand n p = body add done columns hand n p.0 p.1

-- The whole file.
abbrev pub file : Parts → Result Day Fault
file p = do
  h ← head_read p
  r ← sheet_read h.0.scenarios h.1
  es ← run (taking h.0.scenarios (flat r.0)) [] zeros None (7 + length r.0) r.1
  Ok (record { head = h.0; sheet = r.0; accounts = es })

-- the day, or the first fault
abbrev pub reading : List ℕ → Result Day Fault
reading bytes = do
  want (nat_le (length bytes) most_file_bytes) (Line refusals.TooLong 1)
  file (parted 10 bytes)
