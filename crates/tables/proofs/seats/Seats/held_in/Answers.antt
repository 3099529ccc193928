use Rattle.std.proofs.Common.{◌+◌, ap, arith}
use Rattle.terms.proofs.Adding.{sum_to_empty}
use Rattle.tables.specs.Book.{seat_at}
use Rattle.tables.proofs.Holding.{held_by, held_next, held_part}
use Rattle.tables.proofs.seats.Seats.held_in.Goals as goal

pub loop-member-init : goal.loop-member-init
loop-member-init c =
    let none = sum_to_empty c.into_iter-member-iterator.result.passed (λ k. (seat_at c.args.self.now.all.now (k + 1) c.args.segment.number).held) (cc) in
    (omega arith, omega arith)

pub loop-member-preserved : goal.loop-member-preserved
loop-member-preserved c =
    let t = c.args.self.now.all.now in
    let s = c.args.segment.number in
    let steps = c.in-Some.ensures.steps in
    let next = held_next t s c.loop-member.member-iterator.passed c.in-Some.member.number c.seat-held.result c.seat-held.ensures steps.1 in
    let here = ap (held_by t s) steps.2 in
    (omega (arith, c.loop-member.invariant.0), omega arith)

pub returns-then-held-sum : goal.returns-then-held-sum
returns-then-held-sum c =
    let t = c.args.self.now.all.now in
    let s = c.args.segment.number in
    let steps = c.in-Some.ensures.steps in
    let next = held_next t s c.loop-member.member-iterator.passed c.in-Some.member.number c.seat-held.result c.seat-held.ensures steps.1 in
    let part = held_part t s (c.loop-member.member-iterator.passed + 1) (omega (arith, steps.0)) in
    omega (arith, c.loop-member.invariant.0, c.loop-member.invariant.1)
