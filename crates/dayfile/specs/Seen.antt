-- What the functions of the reader answer, in the words of reading.
use Rattle.std.specs.Prelude.{◌≡◌, ℕ, ◌+◌, ◌*◌, ◌<◌, ◌≤◌, List, [], ◌∷◌, ◌++◌, length, take, drop, ℤ, Some, None, Ok, Err, codes, Option, Result}
use Rattle.std.specs.Borrow.{Bor}
use Rattle.terms.specs.declared.refusals.Refusal.TheVariants as refusals
use Rattle.figures.specs.declared.kinds.Position.{Position}
use Rattle.daytext.specs.Text.{Parts, more, parted}
use Rattle.dayreport.specs.declared.faults.Fault.{Fault}
use Rattle.dayreport.specs.declared.faults.Fault.TheVariants as faults
use Rattle.terms.specs.Limits.{most_file_bytes}
use Rattle.dayfile.specs.declared.body.Open.{Open}
use Rattle.dayfile.specs.declared.lines.Lines.{Lines}
use Rattle.dayfile.specs.Days.{Entry, Rule, flat, or_before, tallied}
use Rattle.dayfile.specs.Reading.{◌>>=◌, Hand, told, next, changes}

-- all lines of a file, or that it is too long
abbrev pub LinesOf : List ℕ → Result Lines Fault → Type 0
LinesOf bytes (Ok l) = (length bytes ≤ most_file_bytes) × (l.rest.now ≡ bytes) × (l.number ≡ 1)
LinesOf bytes (Err e) = (most_file_bytes < length bytes) × (e ≡ faults.Line refusals.TooLong 1)

-- one line of those that are left, and what is left then; none where they have no end
abbrev pub LineRead : Lines → Option (Bor (List ℕ)) → Lines → Type 0
LineRead old None new = (parted 10 old.rest.now ≡ (old.rest.now, [])) × (new.rest.now ≡ old.rest.now) × (new.number ≡ old.number)
LineRead old (Some l) new = (parted 10 old.rest.now ≡ more l.now (parted 10 new.rest.now)) × (length new.rest.now < length old.rest.now) × (new.number ≡ old.number + 1)

-- what was read, and the lines that are left
abbrev pub seen_as : {A : Type 0} → Result A Fault → Lines → Result (A × Parts) Fault
seen_as (Ok a) l = Ok (a, parted 10 l.rest.now)
seen_as (Err e) l = Err e

-- the same of a text
abbrev pub text_as : Result (Bor (List ℕ)) Fault → Lines → Result (List ℕ × Parts) Fault
text_as (Ok t) l = Ok (t.now, parted 10 l.rest.now)
text_as (Err e) l = Err e

-- whether an answer is good, or its fault
abbrev pub judged : {A : Type 0} → Result A Fault → Result (Unit {0}) Fault
judged (Ok a) = Ok tt
judged (Err e) = Err e

-- one asset's changes fill its row, or the fault is told
abbrev pub RowRead : Result (List ℤ) Fault → Result (Unit {0}) Fault → List ℤ → Type 0
RowRead (Ok zs) (Ok u) row = row ≡ zs
RowRead (Ok zs) (Err e) row = ⊥
RowRead (Err f) (Ok u) row = ⊥
RowRead (Err f) (Err e) row = e ≡ f

-- line n, one asset's changes, and the lines after it
abbrev pub asset_read : ℕ → ℕ → Parts → Result (List ℤ × Parts) Fault
asset_read scenarios n p = do
  t ← next (codes "chg=") n p
  zs ← changes scenarios n t.0
  Ok (zs, t.1)

-- the line was read, and its changes fill their row; or the fault is told
abbrev pub AssetRead : Result (List ℤ × Parts) Fault → Result (Unit {0}) Fault → Lines → List ℤ → Type 0
AssetRead (Ok x) (Ok u) l row = (parted 10 l.rest.now ≡ x.1) × (row ≡ x.0)
AssetRead (Ok x) (Err e) l row = ⊥
AssetRead (Err f) (Ok u) l row = ⊥
AssetRead (Err f) (Err e) l row = e ≡ f

-- the sheet was read, and stands in front; or the fault is told
abbrev pub SheetRead : ℕ → Result (List (List ℤ) × Parts) Fault → List ℤ → Result ℕ Fault → Lines → List ℤ → Type 0
SheetRead scenarios (Ok x) old (Ok k) l new = (k ≡ length x.0) × (parted 10 l.rest.now ≡ x.1) × (new ≡ flat x.0 ++ drop (length (flat x.0)) old) × (length (flat x.0) ≡ k * scenarios)
SheetRead scenarios (Ok x) old (Err e) l new = ⊥
SheetRead scenarios (Err f) old (Ok k) l new = ⊥
SheetRead scenarios (Err f) old (Err e) l new = e ≡ f

-- how many positions the account in hand has
abbrev pub count_of : Option Open → ℕ
count_of None = 0
count_of (Some o) = o.count

-- the account in hand with its positions, with which the list begins
abbrev pub hand_of : Option Open → List Position → Option Hand
hand_of None held = None
hand_of (Some o) held = Some (record { line = o.line; entry = record { account = o.account; positions = take o.count held } })

-- whether the account in hand is added, or why not
abbrev pub closed_by : Rule → List ℕ → Option Hand → Result (Unit {0}) Fault
closed_by add columns None = Ok tt
closed_by add columns (Some h) = judged (told (add columns h.entry) h.line)

-- the columns once the account in hand is added
abbrev pub columns_by : Rule → List ℕ → Option Hand → List ℕ
columns_by add columns None = columns
columns_by add columns (Some h) = or_before (add columns h.entry) columns

-- the positions of the last account
abbrev pub last_of : List Entry → List Position
last_of [] = []
last_of (e ∷ []) = e.positions
last_of (e ∷ f ∷ es) = last_of (f ∷ es)

-- the last account's positions stand in front, and the accounts are tallied; or the fault is told
abbrev pub BodyRead : Rule → List ℕ → Result (List Entry) Fault → Result ℕ Fault → List Position → List ℕ → Type 0
BodyRead add columns (Ok all) (Ok k) held new = (take k held ≡ last_of all) × (new ≡ tallied add columns all)
BodyRead add columns (Ok all) (Err e) held new = ⊥
BodyRead add columns (Err f) (Ok k) held new = ⊥
BodyRead add columns (Err f) (Err e) held new = e ≡ f
