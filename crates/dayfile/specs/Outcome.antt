-- What reading a day file leaves: its answer, and the caller's lists.
use Rattle.std.specs.Prelude.{◌≡◌, ℕ, ◌-◌, Bool, cond, ◌&&◌, List, [], ◌++◌, length, replicate, ℤ, pos, Ok, Err, Result, ◌==◌}
use Rattle.terms.specs.Limits.{most_changes, most_positions}
use Rattle.terms.specs.declared.refusals.Refusal.TheVariants as refusals
use Rattle.figures.specs.declared.kinds.Figure.{Figure}
use Rattle.figures.specs.declared.kinds.Numbers.{Numbers}
use Rattle.figures.specs.declared.kinds.Position.{Position}
use Rattle.figures.specs.Strikes.{numbers_of}
use Rattle.dayreport.specs.declared.faults.Fault.{Fault}
use Rattle.dayreport.specs.declared.faults.Fault.TheVariants.{Line}
use Rattle.dayfile.specs.Days.{Day, Good, figure_of, flat, written}
use Rattle.dayfile.specs.Reading.{reading}
use Rattle.dayfile.specs.Seen.{last_of}

-- behind a list, as many of z as make up n
unfoldable pub padded : {A : Type 0} → A → ℕ → List A → List A
padded z n xs = xs ++ replicate (n - length xs) z

abbrev pub nothing_held : Position
nothing_held = record { asset = 0; quantity = pos 0 }

-- both of the caller's lists have their lengths
abbrev pub lengths_ok : List ℤ → List Position → Bool
lengths_ok changes positions = length changes == most_changes && length positions == most_positions

-- a figure by its numbers
abbrev pub answer_of : Result Figure Fault → Result Numbers Fault
answer_of (Ok f) = Ok (numbers_of f)
answer_of (Err e) = Err e

abbrev pub figured : Result Day Fault → Result Numbers Fault
figured (Ok d) = Ok (figure_of d)
figured (Err e) = Err e

-- the sheet and zeros beyond, or zeros alone
abbrev pub changes_after : Result Day Fault → List ℤ
changes_after (Ok d) = padded (pos 0) most_changes (flat d.sheet)
changes_after (Err e) = padded (pos 0) most_changes []

-- the last account's positions and zeros beyond, or zeros alone
abbrev pub positions_after : Result Day Fault → List Position
positions_after (Ok d) = padded nothing_held most_positions (last_of d.accounts)
positions_after (Err e) = padded nothing_held most_positions []

-- what `read` answers and leaves
pub record Outcome (bytes : List ℕ) (changes : List ℤ) (positions : List Position) (r : Result Figure Fault) (changes' : List ℤ) (positions' : List Position) : Type 0 where
  pub answer : answer_of r ≡ cond (lengths_ok changes positions) (figured (reading bytes)) (Err (Line refusals.Lengths 1))
  pub sheet : changes' ≡ cond (lengths_ok changes positions) (changes_after (reading bytes)) changes
  pub last : positions' ≡ cond (lengths_ok changes positions) (positions_after (reading bytes)) positions

-- a figure is answered exactly where the bytes are what a good day writes, and it is that day's; there is one such day at most
pub record Exactly (bytes : List ℕ) (answer : Result Numbers Fault) : Type 0 where
  pub good : (d : Day) → Good d → bytes ≡ written d → answer ≡ Ok (figure_of d)
  pub only : (f : Numbers) → answer ≡ Ok f → (d : Day) × Good d × (bytes ≡ written d) × (f ≡ figure_of d)
  pub once : (d e : Day) → Good d → Good e → bytes ≡ written d → bytes ≡ written e → d ≡ e

-- what is read into lists of zeros: the day's figure, sheet and last positions, or the fault
abbrev pub DayRead : Result Day Fault → Result Figure Fault → List ℤ → List Position → Type 0
DayRead (Ok d) (Ok f) changes positions = (numbers_of f ≡ figure_of d) × (changes ≡ padded (pos 0) most_changes (flat d.sheet)) × (positions ≡ padded nothing_held most_positions (last_of d.accounts))
DayRead (Ok d) (Err e) changes positions = ⊥
DayRead (Err g) (Ok f) changes positions = ⊥
DayRead (Err g) (Err e) changes positions = e ≡ g
