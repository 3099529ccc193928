use Rattle.std.proofs.Common.{◌≡◌, ℕ, ◌≤◌, length}
use Rattle.sizing.specs.Meant.{means_of}
use Rattle.asks.specs.Steps.{ask_at}
use Rattle.strike.specs.Members.{sharers_to}
use Rattle.strike.specs.Rows.{row_at}
use Rattle.strike.specs.Strike.{members_in}
use Rattle.strike.proofs.Telling.{row_by}
use Rattle.strike.proofs.sharing.StruckSegment.tell.Given as goal

abbrev pub invariant-loop-member : goal.invariant-loop-member
invariant-loop-member g l =
    let x = members_in l.self.tables.seats.all.now l.self.segment.number in
    (l.place ≡ length (sharers_to l.member-iterator.passed x.shares))
    × ((j : ℕ) → 1 ≤ j → j ≤ l.member-iterator.passed → row_at l.rows j ≡ row_by x (ask_at l.fund.quotas.size l.fund.sharers.minimums.now (means_of l.fund.sharers.means.now)) (g.R.SizingRule.marking l.rule (means_of l.means)) j)
