-- The keys of a day file's lines, as they are written.
use Rattle.std.specs.Prelude.{◌≡◌, ℕ, List, ◌++◌, Some, None, codes, Option, ◌≢◌}
use Rattle.daykeys.specs.declared.keys.Key.{Key}
use Rattle.daykeys.specs.declared.keys.Key.TheVariants.{Form, Member, Segment, Day, Scenarios, Assets, Changes}
use Rattle.daykeys.specs.declared.keys.Row.{Row}
use Rattle.daykeys.specs.declared.keys.Row.TheVariants.{Position, Account, End}

abbrev pub key_text : Key → List ℕ
key_text Form = codes "form="
key_text Member = codes "member="
key_text Segment = codes "segment="
key_text Day = codes "day="
key_text Scenarios = codes "scen="
key_text Assets = codes "assets="
key_text Changes = codes "chg="

-- the line is the row's key and what follows; none is a line of none of these keys
abbrev pub RowIs : List ℕ → Option Row → Type 0
RowIs line (Some (Position t)) = line ≡ codes "pos=" ++ t.now
RowIs line (Some (Account t)) = line ≡ codes "acc=" ++ t.now
RowIs line (Some (End t)) = line ≡ codes "end=" ++ t.now
RowIs line None = (t : List ℕ) → (line ≢ codes "pos=" ++ t) × (line ≢ codes "acc=" ++ t) × (line ≢ codes "end=" ++ t)
