-- What an account adds to the columns of a tally, and when it is refused.
use Rattle.std.specs.Prelude.{◌≡◌, ℕ, ◌+◌, ◌*◌, ◌/◌, ◌%◌, ◌≤◌, min, Bool, cond, ◌&&◌, List, [], ◌∷◌, map, length, ℤ, pos, negsuc, ◌+ℤ◌, ◌-ℤ◌, ◌*ℤ◌, neg_ℤ, Some, None, Ok, Err, fold, Option, Result, ◌==◌, nat_le, nat_lt, slice_index, slice_index_or, unsigned_abs}
use Rattle.std.specs.List.{list_all, range_with_len}
use Rattle.terms.specs.Limits.{within, most_assets, most_positions, change_limit, quantity_limit, margin_limit, column_limit}
use Rattle.terms.specs.Refusing.{Tests, first_refusal}
use Rattle.terms.specs.declared.refusals.Refusal.{Refusal}
use Rattle.terms.specs.declared.refusals.Refusal.TheVariants.{Sheet, Positions, Margin, Column}
use Rattle.figures.specs.declared.kinds.Kind.{Kind}
use Rattle.figures.specs.declared.kinds.Kind.TheVariants.{Own, Client}
use Rattle.figures.specs.declared.kinds.Account.{Account}
use Rattle.figures.specs.declared.kinds.Position.{Position}
use Rattle.figures.specs.declared.kinds.Tally.{Tally}

-- the sheet lists the changes scenario by scenario for asset 0, then for asset 1, and so on
abbrev pub change_in : List ℤ → ℕ → ℕ → ℕ → ℤ
change_in sheet scenarios j asset = slice_index_or sheet (asset * scenarios + j) (pos 0)

-- the sum of quantity × change in scenario j
abbrev pub gain_in : List ℤ → ℕ → ℕ → List Position → ℤ
gain_in sheet scenarios j ps = fold (λ sum p. sum +ℤ (p.quantity *ℤ change_in sheet scenarios j p.asset)) (pos 0) ps

-- an account's loss in scenario j: minus that sum
abbrev pub loss_in : List ℤ → ℕ → ℕ → List Position → ℤ
loss_in sheet scenarios j ps = neg_ℤ (gain_in sheet scenarios j ps)

abbrev offset_by : Kind → ℕ → ℕ → ℕ
offset_by Own required posted = required
offset_by Client required posted = min required posted

-- the required margin for an own account, the smaller of required and posted for a client's
abbrev pub offset_of : Account → ℕ
offset_of a = offset_by a.kind a.required a.posted

abbrev positive : ℤ → ℕ
positive (pos n) = n
positive (negsuc n) = 0

-- loss minus offset, if positive
abbrev pub excess_of : ℤ → ℕ → ℕ
excess_of loss offset = positive (loss -ℤ pos offset)

-- the excess in column k, and nothing where k is no scenario
abbrev pub excess_at : ℕ → List ℤ → ℕ → List Position → ℕ → ℕ
excess_at scenarios sheet offset ps k = cond (nat_lt k scenarios) (excess_of (loss_in sheet scenarios k ps) offset) 0

-- column k after an account: the excess is added where k is a scenario
abbrev pub raised_at : ℕ → List ℤ → ℕ → List Position → List ℕ → ℕ → ℕ
raised_at scenarios sheet offset ps columns k = slice_index columns k + excess_at scenarios sheet offset ps k

-- the columns after an account, however many there are
abbrev pub raised : ℕ → List ℤ → ℕ → List Position → List ℕ → List ℕ
raised scenarios sheet offset ps columns = map (raised_at scenarios sheet offset ps columns) (range_with_len 0 (length columns))

-- a change is at most 1,000,000 up or down
abbrev pub change_ok : ℤ → Bool
change_ok z = nat_le (unsigned_abs z) change_limit

-- the length is that of 1 to 64 whole assets, and each change is in range
abbrev pub sheet_ok : ℕ → List ℤ → Bool
sheet_ok scenarios sheet = within 1 most_assets (length sheet / scenarios) && (length sheet % scenarios == 0 && list_all change_ok sheet)

-- the assets of a sheet
abbrev pub assets_of : ℕ → List ℤ → ℕ
assets_of scenarios sheet = length sheet / scenarios

-- a quantity is not 0, and at most 10,000,000 long or short
abbrev pub quantity_ok : ℤ → Bool
quantity_ok z = within 1 quantity_limit (unsigned_abs z)

-- the asset stands in the sheet
abbrev pub position_ok : ℕ → Position → Bool
position_ok assets p = nat_lt p.asset assets && quantity_ok p.quantity

-- at most 64 positions, each of them good
abbrev pub positions_ok : ℕ → List Position → Bool
positions_ok assets ps = nat_le (length ps) most_positions && list_all (position_ok assets) ps

abbrev pub margins_ok : Account → Bool
margins_ok a = nat_le a.required margin_limit && nat_le a.posted margin_limit

abbrev pub column_ok : ℕ → Bool
column_ok c = nat_le c column_limit

-- what is tested of an account, in order
abbrev pub add_tests : ℕ → List ℕ → List ℤ → Account → List Position → Tests
add_tests scenarios columns sheet a ps =
    (sheet_ok scenarios sheet, Sheet)
    ∷ (positions_ok (assets_of scenarios sheet) ps, Positions)
    ∷ (margins_ok a, Margin)
    ∷ (list_all column_ok (raised scenarios sheet (offset_of a) ps columns), Column)
    ∷ []

-- the new columns, or the first refusal
unfoldable pub adding : ℕ → List ℤ → List ℕ → Account → List Position → Result (List ℕ) Refusal
adding scenarios sheet columns a ps = answered (first_refusal (add_tests scenarios columns sheet a ps))
  where
    answered : Option Refusal → Result (List ℕ) Refusal
    answered None = Ok (raised scenarios sheet (offset_of a) ps columns)
    answered (Some r) = Err r

-- the columns afterwards: raised, or as before where the account was refused
abbrev pub columns_after : {X : Type 0} → Result X Refusal → ℕ → List ℕ → List ℤ → Account → List Position → List ℕ
columns_after (Ok x) scenarios columns sheet a ps = raised scenarios sheet (offset_of a) ps columns
columns_after (Err e) scenarios columns sheet a ps = columns

-- only the columns of a tally change
pub record Added (before after : Tally) (new : List ℕ) : Type 0 where
  pub closing : after.closing ≡ before.closing
  pub scenarios : after.scenarios ≡ before.scenarios
  pub columns : after.columns ≡ new

-- every column is within its limit
abbrev pub Limited : List ℕ → Type 0
Limited columns = (k : ℕ) → slice_index columns k ≤ column_limit

-- a product of quantity and change, and the sum over an account's positions, are never larger
abbrev pub product_limit : ℕ
product_limit = quantity_limit * change_limit

abbrev pub gain_limit : ℕ
gain_limit = most_positions * product_limit
