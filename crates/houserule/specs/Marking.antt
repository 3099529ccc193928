-- Every place of the list is marked, and none past it.
use Rattle.std.specs.Prelude.{ℕ, Bool, List, length, nat_lt}

abbrev pub mark_all : List ℕ → ℕ → Bool
mark_all means k = nat_lt k (length means)
