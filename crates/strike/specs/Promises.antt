-- What a strike promises, member by member, whatever rule sizes the fund.
use Rattle.std.specs.Prelude.{◌≡◌, ℕ, ◌+◌, ◌*◌, ◌<◌, ◌≤◌, max, true, List}
use Rattle.terms.specs.Limits.{rounding_step}
use Rattle.tables.specs.Book.{IsMember}
use Rattle.asks.specs.Bounds.{most_asked}
use Rattle.strike.specs.declared.rows.Row.{Row}
use Rattle.strike.specs.Members.{Members, how_many, over_members, over_sharers}
use Rattle.strike.specs.Rows.{ask_in}

pub record AsksBounded (x : Members) (size : ℕ) (rows : List Row) : Type 0 where
  -- at least the minimum is asked of each member that shares, and at most the larger of minimum and mean, rounded up
  pub least : (m : ℕ) → IsMember m → x.shares m ≡ true → x.minimum m ≤ ask_in rows m
  pub most : (m : ℕ) → IsMember m → x.shares m ≡ true → ask_in rows m ≤ most_asked (x.minimum m) (x.mean m)
  -- all asks together reach the larger of the fund and the minimums, and pass it by less than the step for each that shares
  pub enough : max size (over_sharers x x.minimum) ≤ over_members (ask_in rows)
  pub near : over_members (ask_in rows) < max size (over_sharers x x.minimum) + rounding_step * how_many x
  -- the fund covers the largest mean
  pub covers : (m : ℕ) → IsMember m → x.shares m ≡ true → x.mean m ≤ size
