-- What a loss promises, member by member.
use Rattle.std.specs.Prelude.{◌≡◌, ℕ, ◌+◌, ◌*◌, ◌<◌, ◌≤◌, min, true, false, cond, List, ◌==◌}
use Rattle.tables.specs.Book.{IsMember}
use Rattle.house.specs.Holders.{Holders, bears, over_members, stake_of}
use Rattle.house.specs.Rows.{amount_in}

-- what the members but d are charged, and what they bear it with
abbrev pub borne_of : ℕ → List ℕ → ℕ
borne_of d charges = over_members (λ m. cond (m == d) 0 (amount_in charges m))

abbrev pub stakes_of : Holders → ℕ → ℕ
stakes_of x d = over_members (stake_of x d)

pub record ChargesFair (x : Holders) (d a : ℕ) (charges : List ℕ) : Type 0 where
  -- the loss is charged in full, the defaulter's held amount first
  pub all : over_members (amount_in charges) ≡ a
  pub own : amount_in charges d ≡ min (x.held d) a
  -- nobody is charged more than it holds, and nobody who does not share
  pub within : (m : ℕ) → IsMember m → amount_in charges m ≤ x.held m
  pub none : (m : ℕ) → IsMember m → x.shares m ≡ false → amount_in charges m ≡ 0
  -- every other member that shares bears its proportional part, by less than one off
  pub under : (m : ℕ) → IsMember m → bears x d m ≡ true → 0 < stakes_of x d → amount_in charges m * stakes_of x d < borne_of d charges * x.held m + stakes_of x d
  pub over : (m : ℕ) → IsMember m → bears x d m ≡ true → 0 < stakes_of x d → borne_of d charges * x.held m < amount_in charges m * stakes_of x d + stakes_of x d
  pub idle : (m : ℕ) → IsMember m → bears x d m ≡ true → stakes_of x d ≡ 0 → amount_in charges m ≡ 0
