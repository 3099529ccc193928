-- Who bears a loss, and how much. Who shares and what each member holds are told by functions of the member, whatever they are
-- told from.
use Rattle.std.specs.Prelude.{ℕ, ◌+◌, ◌-◌, min, Bool, cond, not, ◌&&◌, ◌==◌}
use Rattle.terms.specs.Limits.{last_member}
use Rattle.terms.specs.Sums.{sum_to}
use Rattle.share.specs.Split.{part_by}

pub record Holders : Type 0 where
  pub shares : ℕ → Bool
  pub held : ℕ → ℕ

-- a sum over all members
abbrev pub over_members : (ℕ → ℕ) → ℕ
over_members f = sum_to last_member (λ k. f (k + 1))

-- member m bears a loss of d's: it shares, and is another
abbrev pub bears : Holders → ℕ → ℕ → Bool
bears x d m = x.shares m && not (m == d)

-- what it bears it with
abbrev pub stake_of : Holders → ℕ → ℕ → ℕ
stake_of x d m = cond (bears x d m) (x.held m) 0

-- the defaulter's own charge: what it holds, as far as the loss goes
abbrev pub own_of : Holders → ℕ → ℕ → ℕ
own_of x d a = min (x.held d) a

-- what member m is charged: the defaulter first, and the rest split over the others by what they hold, in member order
abbrev pub charge_of : Holders → ℕ → ℕ → ℕ → ℕ
charge_of x d a m = cond (m == d) (own_of x d a) (part_by (a - own_of x d a) last_member (λ k. stake_of x d (k + 1)) (m - 1))
