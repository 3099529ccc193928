use Rattle.std.proofs.Common.{◌≡◌, ℕ, ◌+◌, get_or, sym, ap, ◌∙◌, arith}
use Rattle.tables.specs.Book.{no_seat, place}
use Rattle.tables.specs.Writing.{written_to}
use Rattle.tables.proofs.Segments.{none_written}
use Rattle.strike.proofs.Settling.{becomes, settle_step}
use Rattle.strike.specs.Rows.{unasked}
use Rattle.strike.specs.Strike.{settled}
use Rattle.strike.proofs.striking.settle_all.Goals as goal

pub loop-member-init : goal.loop-member-init
loop-member-init c =
    let t = c.args.seats.now in
    let s = c.args.segment.number in
    let e : c.into_iter-member-iterator.result.passed ≡ 0 = (cc) in
    sym (ap (λ (n : ℕ). written_to n t s (becomes t s c.args.rows.now)) e ∙ none_written t s (becomes t s c.args.rows.now))

pub loop-member-preserved : goal.loop-member-preserved
loop-member-preserved c =
    let t = c.args.seats.now in
    let s = c.args.segment in
    let k = c.loop-member.member-iterator.passed in
    let steps = c.in-Some.ensures.steps in
    let at : c.place_of-place.result ≡ place (k + 1) s.number = c.place_of-place.ensures.is ∙ ap (λ (m : ℕ). place m s.number) steps.1 in
    let row : c.index.result ≡ k = omega (arith, c.index.ensures.is, steps.1) in
    settle_step t s.number c.args.rows.now k c.place_of-place.result c.loop-member.seats c.settle.result s.known c.loop-member.invariant at
    (c.settle.ensures ∙ ap (λ (i : ℕ). settled (get_or c.args.rows.now i unasked).ask (get_or c.loop-member.seats c.place_of-place.result no_seat)) row)
    ∙ ap (λ (n : ℕ). written_to n t s.number (becomes t s.number c.args.rows.now)) (sym steps.2)
