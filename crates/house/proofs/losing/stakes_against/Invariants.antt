use Rattle.std.proofs.Common.{◌≡◌, ℕ, ◌≤◌, length}
use Rattle.terms.specs.Limits.{all_members}
use Rattle.house.specs.Holders.{stake_of}
use Rattle.house.specs.Loss.{holders_in}
use Rattle.house.specs.Rows.{amount_in}
use Rattle.house.proofs.losing.stakes_against.Given as goal

abbrev pub invariant-loop-member : goal.invariant-loop-member
invariant-loop-member l =
    (length l.stakes ≡ all_members)
    × ((m : ℕ) → 1 ≤ m → m ≤ l.member-iterator.passed → amount_in l.stakes m ≡ stake_of (holders_in l.tables.seats.all.now l.segment.number) l.defaulter.number m)
