use Rattle.std.proofs.Common.{◌≡◌, ◌+◌, ◌-◌, cond, not, ◌&&◌, get_or, set, ap, ◌∙◌, arith, length-set}
use Rattle.tables.specs.Book.{shares}
use Rattle.tables.proofs.MemberRows.{rows_more}
use Rattle.tables.specs.declared.records.Seat.{Seat}
use Rattle.house.specs.Holders.{stake_of}
use Rattle.house.specs.Loss.{holders_in}
use Rattle.house.proofs.losing.stakes_against.Goals as goal

pub loop-member-preserved : goal.loop-member-preserved
loop-member-preserved c =
    let x = holders_in c.args.tables.now.seats.all.now c.args.segment.number in
    let d = c.args.defaulter.number in
    let n = c.loop-member.member-iterator.passed in
    let steps = c.in-Some.ensures.steps in
    let at : c.index.result ≡ n = omega (arith, steps.1) in
    let stake : c.stake.result ≡ stake_of x d (n + 1) =
    c.stake.ensures
    ∙ ap (λ (y : Seat). cond (shares y.class && not c.eq.result) y.held 0) c.seat-seat.ensures.is
    ∙ ap (λ b. cond (x.shares c.in-Some.member.number && not b) (x.held c.in-Some.member.number) 0) c.eq.ensures
    ∙ ap (stake_of x d) steps.1 in (
      length-set c.loop-member.stakes c.index.result c.stake.result ∙ c.loop-member.invariant.0,
      λ m low le.
          ap (λ i. get_or (set c.loop-member.stakes i c.stake.result) (m - 1) 0) at
          ∙ rows_more 0 (stake_of x d) c.loop-member.stakes n c.stake.result (omega (arith, steps.0)) c.loop-member.invariant.1 stake m low (omega (arith, steps.2)),
    )
