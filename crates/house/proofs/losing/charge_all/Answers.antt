use Rattle.std.proofs.Common.{◌≡◌, ℕ, ◌+◌, ◌-◌, get_or, sym, ap, ◌∙◌, arith}
use Rattle.tables.specs.Book.{place, seat_at}
use Rattle.tables.specs.Writing.{written_to}
use Rattle.tables.specs.declared.records.Seat.{Seat}
use Rattle.tables.proofs.Segments.{none_written, unwritten, write_step}
use Rattle.house.specs.Loss.{charged_by}
use Rattle.house.specs.Rows.{amount_in}
use Rattle.house.proofs.losing.charge_all.Goals as goal

pub loop-member-init : goal.loop-member-init
loop-member-init c =
    let t = c.args.seats.now in
    let s = c.args.segment.number in
    let become : ℕ → Seat = λ m. charged_by (amount_in c.args.charges.now m) (seat_at t m s) in
    let none : c.into_iter-member-iterator.result.passed ≡ 0 = cc in
    sym (ap (λ n. written_to n t s become) none ∙ none_written t s become)

pub overflow_sub-seat : goal.overflow_sub-seat
overflow_sub-seat c =
    let t = c.args.seats.now in
    let s = c.args.segment.number in
    let n = c.loop-member.member-iterator.passed in
    let steps = c.in-Some.ensures.steps in
    let here : c.index.result ≡ n + 1 - 1 = omega (arith, steps.1) in
    let seat = unwritten t s (λ m. charged_by (amount_in c.args.charges.now m) (seat_at t m s)) n c.place_of.result c.loop-member.seats c.args.segment.known c.loop-member.invariant (c.place_of.ensures.is ∙ ap (λ m. place m s) steps.1) in
    omega (arith, c.requires.enough (n + 1) (omega arith, omega (arith, steps.0)), ap (λ k. get_or c.args.charges.now k 0) here, ap (λ (x : Seat). x.held) seat)

pub loop-member-preserved : goal.loop-member-preserved
loop-member-preserved c =
    let t = c.args.seats.now in
    let s = c.args.segment.number in
    let n = c.loop-member.member-iterator.passed in
    let steps = c.in-Some.ensures.steps in
    let here : c.index.result ≡ n + 1 - 1 = omega (arith, steps.1) in
    let at : c.place_of.result ≡ place (n + 1) s = c.place_of.ensures.is ∙ ap (λ m. place m s) steps.1 in
    let become : ℕ → Seat = λ m. charged_by (amount_in c.args.charges.now m) (seat_at t m s) in
    let seat = unwritten t s become n c.place_of.result c.loop-member.seats c.args.segment.known c.loop-member.invariant at in
    write_step t s become n c.place_of.result c.loop-member.seats _ c.loop-member.invariant at
    (ap (λ (x : Seat). charged_by (get_or c.args.charges.now c.index.result 0) x) seat ∙ ap (λ k. charged_by (get_or c.args.charges.now k 0) (seat_at t (n + 1) s)) here)
    ∙ ap (λ k. written_to k t s become) (sym steps.2)
