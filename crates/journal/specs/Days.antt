-- Day files in a journal: where one begins, and how far it reaches.
use Rattle.std.specs.Prelude.{◌≡◌, ℕ, ◌+◌, ◌⊎◌, Bool, cond, List, [], ◌∷◌, length, codes, is_some}
use Rattle.daytext.specs.Text.{after, more, parted}

-- whether a text begins with the key
abbrev pub begins : List ℕ → List ℕ → Bool
begins key text = is_some (after key text)

-- how many bytes of a line and the lines after it belong to the day file that began before it: none of a line that begins
-- the next one; an end line with its byte 10, if it has one; of any other line all, and what belongs of the lines after it
abbrev pub reached : List ℕ → List (List ℕ) → ℕ
reached line [] = cond (begins (codes "form=") line) 0 (length line)
reached line (next ∷ lines) =
    cond (begins (codes "form=") line) 0 (cond (begins (codes "end=") line) (length line + 1) (length line + 1 + reached next lines))

-- how many bytes belong to the day file whose first line is this one, whatever the line says
abbrev pub first_reached : List ℕ → List (List ℕ) → ℕ
first_reached first [] = length first
first_reached first (next ∷ lines) = length first + 1 + reached next lines

-- how many bytes of a text belong to the day file that it begins with ('\n' is 10)
abbrev pub day_length : List ℕ → ℕ
day_length text = first_reached (parted 10 text).0 (parted 10 text).1

-- the rest of a text is what follows its first line, and is empty where no line is ended
abbrev pub LineEndsBefore : List ℕ → List ℕ → Type 0
LineEndsBefore text rest =
    ((parted 10 text ≡ (text, [])) × (rest ≡ [])) ⊎ ((line : List ℕ) × (parted 10 text ≡ more line (parted 10 rest)))
