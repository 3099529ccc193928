use Rattle.std.proofs.Common.{◌≡◌, ◌≤◌, true, false, sym, ap, ◌∙◌, arith}
use Rattle.terms.specs.Limits.{figure_limit, minimum_limit}
use Rattle.terms.proofs.Dividing.{up_mean}
use Rattle.tables.specs.Book.{shares}
use Rattle.tables.specs.Writing.{mean_of}
use Rattle.tables.specs.declared.records.Seat.{Seat}
use Rattle.strike.specs.Strike.{members_in}
use Rattle.strike.proofs.Gathering.{column_few, column_no, column_none, column_yes, small_more, small_none}
use Rattle.strike.proofs.sharing.StruckSegment.gather.Goals as goal

pub loop-member-init : goal.loop-member-init
loop-member-init c =
    let x = members_in c.args.self.now.tables.seats.all.now c.args.self.now.segment.number in
    let n = c.into_iter-member-iterator.result.passed in
    let e : n ≡ 0 = (cc) in (
      c.new-means.ensures ∙ column_none x.shares x.mean n e,
      c.new-minimums.ensures ∙ column_none x.shares x.minimum n e,
      small_none figure_limit c.new-means.result.items c.new-means.ensures,
      small_none minimum_limit c.new-minimums.result.items c.new-minimums.ensures,
    )

pub push-requires : goal.push-requires
push-requires c =
    let x = members_in c.args.self.now.tables.seats.all.now c.args.self.now.segment.number in
    let few = column_few x.shares x.mean c.loop-member.member-iterator.passed c.loop-member.means.items c.loop-member.invariant.0 in
    (omega arith, omega (arith, few, c.in-Some.ensures.steps.0))

pub push-requires-then-shares : goal.push-requires-then-shares
push-requires-then-shares c =
    let x = members_in c.args.self.now.tables.seats.all.now c.args.self.now.segment.number in
    let few = column_few x.shares x.minimum c.loop-member.member-iterator.passed c.loop-member.minimums.items c.loop-member.invariant.1 in
    (omega arith, omega (arith, few, c.in-Some.ensures.steps.0))

pub loop-member-preserved-then-shares : goal.loop-member-preserved-then-shares
loop-member-preserved-then-shares c =
    let x = members_in c.args.self.now.tables.seats.all.now c.args.self.now.segment.number in
    let k = c.loop-member.member-iterator.passed in
    let m = c.in-Some.member.number in
    let n = c.next.new.self.passed in
    let seat = c.seat-seat.result in
    let inv = c.loop-member.invariant in
    let steps = c.in-Some.ensures.steps in
    let yes : x.shares m ≡ true = ap (λ (y : Seat). shares y.class) (sym c.seat-seat.ensures.is) ∙ sym c.if-shares.ensures in
    let mean : c.mean.result ≡ x.mean m = c.mean.ensures ∙ ap mean_of c.seat-seat.ensures.is in
    let least : seat.minimum ≡ x.minimum m = ap (λ (y : Seat). y.minimum) c.seat-seat.ensures.is in
    let small : c.mean.result ≤ figure_limit = omega (arith, c.mean.ensures, up_mean seat.sum seat.days figure_limit c.seat-seat.ensures.ranged.sum) in (
      c.push.ensures.items ∙ column_yes x.shares x.mean k n m c.mean.result c.loop-member.means.items yes steps.1 steps.2 inv.0 mean,
      c.push-then-shares.ensures.items ∙ column_yes x.shares x.minimum k n m seat.minimum c.loop-member.minimums.items yes steps.1 steps.2 inv.1 least,
      small_more figure_limit c.loop-member.means.items c.push.new.self.items c.mean.result inv.2 small c.push.ensures.items,
      small_more minimum_limit c.loop-member.minimums.items c.push-then-shares.new.self.items seat.minimum inv.3 c.seat-seat.ensures.minimum c.push-then-shares.ensures.items,
    )

pub loop-member-preserved : goal.loop-member-preserved
loop-member-preserved c =
    let x = members_in c.args.self.now.tables.seats.all.now c.args.self.now.segment.number in
    let k = c.loop-member.member-iterator.passed in
    let m = c.in-Some.member.number in
    let n = c.next.new.self.passed in
    let inv = c.loop-member.invariant in
    let steps = c.in-Some.ensures.steps in
    let no' : x.shares m ≡ false = ap (λ (y : Seat). shares y.class) (sym c.seat-seat.ensures.is) ∙ sym c.if-shares.ensures in
    (column_no x.shares x.mean k n m c.loop-member.means.items no' steps.1 steps.2 inv.0, column_no x.shares x.minimum k n m c.loop-member.minimums.items no' steps.1 steps.2 inv.1, inv.2, inv.3)
