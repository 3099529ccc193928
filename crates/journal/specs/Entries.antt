-- The entry that a line of a journal makes.
use Rattle.std.specs.Prelude.{ℕ, zero, suc, List, [], ◌∷◌, Some, None, Option, codes, option_and_then, option_map, slice_index_or}
use Rattle.std.specs.Option.{option_or}
use Rattle.daytext.specs.Text.{after, fields_of, plain_of}
use Rattle.journal.specs.declared.entries.Entry.{Entry}
use Rattle.journal.specs.declared.entries.Entry.TheVariants.{Admit, Pay, Withdraw, Depart}

-- NUMBERS

-- one number more in front, where there are numbers
abbrev pub with_number : Option ℕ → Option (List ℕ) → Option (List ℕ)
with_number None others = None
with_number (Some n) None = None
with_number (Some n) (Some ns) = Some (n ∷ ns)

-- exactly so many fields, with a number in each
abbrev pub numbers_of : ℕ → List (List ℕ) → Option (List ℕ)
numbers_of zero [] = Some []
numbers_of zero (f ∷ fs) = None
numbers_of (suc n) [] = None
numbers_of (suc n) (f ∷ fs) = with_number (plain_of f) (numbers_of n fs)

-- ENTRIES

-- the number at a place, counted from 0
abbrev pub nth : List ℕ → ℕ → ℕ
nth ns i = slice_index_or ns i 0

abbrev pub admission : List ℕ → Entry
admission ns = Admit (nth ns 0) (nth ns 1) (nth ns 2) (nth ns 3) (nth ns 4)

abbrev pub payment : List ℕ → Entry
payment ns = Pay (nth ns 0) (nth ns 1) (nth ns 2)

abbrev pub withdrawal : List ℕ → Entry
withdrawal ns = Withdraw (nth ns 0) (nth ns 1) (nth ns 2)

abbrev pub departure : List ℕ → Entry
departure ns = Depart (nth ns 0) (nth ns 1)

-- the entry that exactly so many numbers make behind a key
abbrev pub keyed : List ℕ → ℕ → (List ℕ → Entry) → List ℕ → Option Entry
keyed key n make line = option_and_then (λ text. option_map make (numbers_of n (fields_of text))) (after key line)

-- the entry that a line makes, without its byte 10
abbrev pub line_entry : List ℕ → Option Entry
line_entry line =
    option_or (keyed (codes "admit=") 5 admission line)
    (option_or (keyed (codes "pay=") 3 payment line)
    (option_or (keyed (codes "withdraw=") 3 withdrawal line)
    (keyed (codes "depart=") 2 departure line)))
