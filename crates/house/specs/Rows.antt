-- Amounts by member.
use Rattle.std.specs.Prelude.{◌≡◌, ℕ, ◌-◌, List, length, slice_index}
use Rattle.terms.specs.Limits.{all_members}
use Rattle.tables.specs.Book.{IsMember}
use Rattle.house.specs.Holders.{Holders, charge_of}

-- the amount of member m in the list
abbrev pub amount_in : List ℕ → ℕ → ℕ
amount_in amounts m = slice_index amounts (m - 1)

-- the charges of a loss of a by d
pub record Charged (x : Holders) (d a : ℕ) (charges : List ℕ) : Type 0 where
  pub long : length charges ≡ all_members
  pub each : (m : ℕ) → IsMember m → amount_in charges m ≡ charge_of x d a m
