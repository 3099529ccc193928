use Rattle.std.proofs.Common.{◌≡◌, eqb, length, replicate, pos, sym, ap, ◌∙◌, rules, arith}
use Rattle.std.proofs.lemmas.Bool.{and_parts, eqb-true}
use Rattle.terms.specs.Limits.{most_changes, most_positions}
use Rattle.dayfile.specs.Outcome.{nothing_held}
use Rattle.dayfile.proofs.Padding.{padded_none}
use Rattle.dayfile.proofs.Outcomes.{read_left, read_cleared, exactly}
use Rattle.dayfile.proofs.reading.read.Goals as goal

pub returns-then-is_err : goal.returns-then-is_err
returns-then-is_err c =
    let on = sym c.if-not-lengths_ok.ensures in
    let l = and_parts (eqb (length c.args.changes.now) most_changes) (eqb (length c.args.positions.now) most_positions) on in
    let a = eqb-true (length c.args.changes.now) most_changes l.0 in
    let b = eqb-true (length c.args.positions.now) most_positions l.1 in
    let none : c.default.result ≡ nothing_held = search rules in
    let o = read_cleared c.args.bytes.now c.args.changes.now c.args.positions.now on c.day-answer.result c.day-answer.new.changes c.day-answer.new.positions c.fill-then-is_err.new.self c.fill-then-is_err-2.new.self (search rules) c.day-answer.ensures
    (padded_none (pos 0) most_changes _ _ (c.fill-then-is_err.ensures.after (λ y h. search rules)) (omega arith))
    (padded_none nothing_held most_positions _ _ (c.fill-then-is_err-2.ensures.after (λ y h. search rules) ∙ ap (replicate (length c.day-answer.new.positions)) none) (omega arith)) in
    record { outcome = o; exactly = λ _. exactly c.args.bytes.now c.args.changes.now c.args.positions.now on _ _ _ o }

pub returns-else-is_err : goal.returns-else-is_err
returns-else-is_err c =
    let on = sym c.if-not-lengths_ok.ensures in
    let o = read_left c.args.bytes.now c.args.changes.now c.args.positions.now on c.day-answer.result c.day-answer.new.changes c.day-answer.new.positions (search rules) c.day-answer.ensures in
    record { outcome = o; exactly = λ _. exactly c.args.bytes.now c.args.changes.now c.args.positions.now on _ _ _ o }
