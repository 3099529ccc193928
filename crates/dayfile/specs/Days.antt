-- A day, and the bytes that write it.
use Rattle.std.specs.Prelude.{◌≡◌, ℕ, ◌≤◌, List, [], ◌∷◌, ◌++◌, map, length, replicate, ℤ, None, Ok, Err, codes, Result, unsigned_abs}
use Rattle.std.specs.List.{flat_map, AllByRecursion}
use Rattle.terms.specs.Limits.{most_scenarios, most_assets, most_positions, change_limit, most_file_bytes}
use Rattle.terms.specs.Refusing.{first_refusal}
use Rattle.terms.specs.declared.refusals.Refusal.{Refusal}
use Rattle.figures.specs.declared.kinds.Kind.{Kind}
use Rattle.figures.specs.declared.kinds.Kind.TheVariants.{Own, Client}
use Rattle.figures.specs.declared.kinds.Account.{Account}
use Rattle.figures.specs.declared.kinds.Position.{Position}
use Rattle.figures.specs.declared.kinds.Numbers.{Numbers}
use Rattle.figures.specs.Headings.{heading_tests}
use Rattle.figures.specs.Accounts.{adding}
use Rattle.figures.specs.Strikes.{in_mils, largest_of}
use Rattle.daytext.specs.Text.{decimal, signed_text, Short, glued}
use Rattle.dayfile.specs.declared.head.Head.{Head}

-- an account with its positions
pub record Entry : Type 0 where
  pub account : Account
  pub positions : List Position

-- the first lines' numbers, a list of changes for each asset, and the accounts
pub record Day : Type 0 where
  pub head : Head
  pub sheet : List (List ℤ)
  pub accounts : List Entry

-- What a day writes, line by line. Byte 44 is the comma between fields.
abbrev pub head_lines : Head → List (List ℕ)
head_lines h =
    (codes "form=" ++ decimal 1)
    ∷ (codes "member=" ++ decimal h.member)
    ∷ (codes "segment=" ++ decimal h.segment)
    ∷ (codes "day=" ++ decimal h.day)
    ∷ (codes "scen=" ++ decimal h.scenarios)
    ∷ []

abbrev pub change_text : List ℤ → List ℕ
change_text [] = []
change_text (z ∷ zs) = glued 44 (signed_text z, map signed_text zs)

-- one asset's changes, by scenario
abbrev pub change_line : List ℤ → List ℕ
change_line zs = codes "chg=" ++ change_text zs

abbrev pub sheet_lines : List (List ℤ) → List (List ℕ)
sheet_lines zss = (codes "assets=" ++ decimal (length zss)) ∷ map change_line zss

abbrev pub kind_text : Kind → List ℕ
kind_text Own = codes "own"
kind_text Client = codes "cli"

-- kind, required and posted margin
abbrev pub account_line : Account → List ℕ
account_line a = codes "acc=" ++ glued 44 (kind_text a.kind, decimal a.required ∷ decimal a.posted ∷ [])

-- asset and quantity
abbrev pub position_line : Position → List ℕ
position_line p = codes "pos=" ++ glued 44 (decimal p.asset, signed_text p.quantity ∷ [])

abbrev pub end_line : ℕ → List ℕ
end_line k = codes "end=" ++ decimal k

-- each account with its positions, and the end, which counts k
abbrev pub rest_lines : List Entry → ℕ → List (List ℕ)
rest_lines [] k = end_line k ∷ []
rest_lines (e ∷ es) k = account_line e.account ∷ (map position_line e.positions ++ rest_lines es k)

abbrev pub day_lines : Day → List (List ℕ)
day_lines d = head_lines d.head ++ (sheet_lines d.sheet ++ rest_lines d.accounts (length d.accounts))

-- each line ended by byte 10
abbrev pub written : Day → List ℕ
written d = flat_map (λ l. l ++ (10 ∷ [])) (day_lines d)

-- The tally of a day.

-- how a tally takes an account: its columns afterwards, or a refusal
abbrev pub Rule : Type 0
Rule = List ℕ → Entry → Result (List ℕ) Refusal

-- the rule of adding, for a scenario count and a sheet
abbrev pub taking : ℕ → List ℤ → Rule
taking scenarios sheet columns e = adding scenarios sheet columns e.account e.positions

-- the sheet's changes, asset by asset
abbrev pub flat : List (List ℤ) → List ℤ
flat zss = flat_map (λ zs. zs) zss

-- a tally's columns at the start
abbrev pub zeros : List ℕ
zeros = replicate most_scenarios 0

abbrev pub or_before : Result (List ℕ) Refusal → List ℕ → List ℕ
or_before (Ok new) old = new
or_before (Err r) old = old

-- the columns once the accounts were added in their order
abbrev pub tallied : Rule → List ℕ → List Entry → List ℕ
tallied add columns [] = columns
tallied add columns (e ∷ es) = tallied add (or_before (add columns e) columns) es

-- every account is accepted in its turn
abbrev pub Accepted : Rule → List ℕ → List Entry → Type 0
Accepted add columns [] = Unit {0}
Accepted add columns (e ∷ es) = (new : List ℕ) × (add columns e ≡ Ok new) × Accepted add new es

abbrev pub rule_of : Day → Rule
rule_of d = taking d.head.scenarios (flat d.sheet)

-- the figure of a day: its accounts tallied in order, and struck
abbrev pub figure_of : Day → Numbers
figure_of d = record { member = d.head.member; segment = d.head.segment; day = d.head.day; amount = in_mils (largest_of (tallied (rule_of d) zeros d.accounts)) }

-- Which days a file can hold.

-- the heading is accepted
abbrev pub Headed : Head → Type 0
Headed h = first_refusal (heading_tests h.member h.segment h.day h.scenarios) ≡ None

-- a change for each scenario, each in range
pub record InRange (scenarios : ℕ) (zs : List ℤ) : Type 0 where
  pub count : length zs ≡ scenarios
  pub small : AllByRecursion (λ z. unsigned_abs z ≤ change_limit) zs

pub record Lawful (scenarios : ℕ) (zss : List (List ℤ)) : Type 0 where
  pub assets : (1 ≤ length zss) × (length zss ≤ most_assets)
  pub changes : AllByRecursion (InRange scenarios) zss

-- numbers that a line can hold
pub record Numbered (p : Position) : Type 0 where
  pub asset : Short p.asset
  pub quantity : Short (unsigned_abs p.quantity)

pub record Written (e : Entry) : Type 0 where
  pub required : Short e.account.required
  pub posted : Short e.account.posted
  pub few : length e.positions ≤ most_positions
  pub positions : AllByRecursion Numbered e.positions

pub record Good (d : Day) : Type 0 where
  pub head : Headed d.head
  pub sheet : Lawful d.head.scenarios d.sheet
  pub accounts : AllByRecursion Written d.accounts
  pub accepted : Accepted (rule_of d) zeros d.accounts
  pub short : length (written d) ≤ most_file_bytes
