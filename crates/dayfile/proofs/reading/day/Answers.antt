use Rattle.std.proofs.Common.{◌≡◌, ◌+◌, [], ◌++◌, length, drop, replicate, pos, None, Ok, Err, sym, ap, ◌∙◌, rules, arith}
use Rattle.std.proofs.lemmas.Result.{err_from_is_err_and}
use Rattle.terms.specs.Limits.{most_changes, most_positions}
use Rattle.figures.specs.Strikes.{in_mils, largest_of}
use Rattle.daytext.specs.Text.{parted}
use Rattle.dayfile.specs.Days.{Day, flat, taking, zeros}
use Rattle.dayfile.specs.Outcome.{nothing_held}
use Rattle.dayfile.specs.Reading.{lines_read, run, sheet_read}
use Rattle.dayfile.specs.Seen.{last_of}
use Rattle.dayfile.proofs.Padding.{padded_front, padded_rest, filled_rest}
use Rattle.dayfile.proofs.Outcomes.{fault_told, day_told, body_bad, body_good, sheet_filled, sheet_front, body_fault, body_read, body_at}
use Rattle.dayfile.proofs.reading.day.Goals as goal

pub returns-in_err-count : goal.returns-in_err-count
returns-in_err-count c =
    let b = c.in_ok-lines.ensures in
    let lines = ap (λ x. lines_read (parted 10 x)) (sym b.1) ∙ sym c.in_ok-head.ensures.is in
    let s = sheet_filled c.in_ok-head.head.scenarios (sheet_read c.in_ok-head.head.scenarios (parted 10 c.first_lines.new.lines.rest.now)) c.args.changes.now c.in_ok-assets.assets c.sheet.new.lines c.sheet.new.out c.in_ok-assets.ensures.is in
    let p = err_from_is_err_and c.from_residual-in_err-count.result c.from_residual-in_err-count.ensures.1 in
    fault_told c.args.bytes.now c.from_residual-in_err-count.result c.in_err-count.field-0.0 _ _ (p.1 ∙ ap Err p.2) (body_bad c.args.bytes.now b.0 c.in_ok-head.head c.first_lines.new.lines.rest.now lines (sym c.in_ok-heading.ensures.fault) s.0 (parted 10 c.sheet.new.lines.rest.now) s.1.is c.in_err-count.field-0.0
    (body_fault (taking c.in_ok-head.head.scenarios (flat s.0)) zeros _ c.in_err-count.field-0.0 c.accounts.new.held c.accounts.new.tally.columns (body_at c.open-tally.result.scenarios c.in_ok-head.head.scenarios _ (flat s.0) c.open-tally.result.columns zeros c.sheet.new.lines.number (7 + length s.0) (parted 10 c.sheet.new.lines.rest.now) (Err c.in_err-count.field-0.0) c.accounts.new.held c.accounts.new.tally.columns
    (c.open-tally.ensures.scenarios ∙ c.in_ok-heading.ensures.is.scenarios) (sheet_front s.1) c.open-tally.ensures.columns (c.in_ok-assets.ensures.on ∙ ap (λ k. 7 + k) s.1.assets) c.in_err-count.ensures.is)))

pub returns : goal.returns
returns c =
    let b = c.in_ok-lines.ensures in
    let lines = ap (λ x. lines_read (parted 10 x)) (sym b.1) ∙ sym c.in_ok-head.ensures.is in
    let s = sheet_filled c.in_ok-head.head.scenarios (sheet_read c.in_ok-head.head.scenarios (parted 10 c.first_lines.new.lines.rest.now)) c.args.changes.now c.in_ok-assets.assets c.sheet.new.lines c.sheet.new.out c.in_ok-assets.ensures.is in
    let r = body_read (taking c.in_ok-head.head.scenarios (flat s.0)) zeros (run (taking c.in_ok-head.head.scenarios (flat s.0)) [] zeros None (7 + length s.0) (parted 10 c.sheet.new.lines.rest.now)) c.in_ok-count.count c.accounts.new.held c.accounts.new.tally.columns
    (body_at c.open-tally.result.scenarios c.in_ok-head.head.scenarios _ (flat s.0) c.open-tally.result.columns zeros c.sheet.new.lines.number (7 + length s.0) (parted 10 c.sheet.new.lines.rest.now) (Ok c.in_ok-count.count) c.accounts.new.held c.accounts.new.tally.columns
    (c.open-tally.ensures.scenarios ∙ c.in_ok-heading.ensures.is.scenarios) (sheet_front s.1) c.open-tally.ensures.columns (c.in_ok-assets.ensures.on ∙ ap (λ k. 7 + k) s.1.assets) c.in_ok-count.ensures.is) in
    let d : Day = record { head = c.in_ok-head.head; sheet = s.0; accounts = r.0 } in
    let closing = c.strike.ensures.closing ∙ c.in_ok-count.ensures.kept.0 ∙ c.open-tally.ensures.closing in
    let h = c.in_ok-heading.ensures.is in
    let none : c.default.result ≡ nothing_held = search rules in
    day_told c.args.bytes.now d c.strike.result c.sheet.new.out _
    (body_good c.args.bytes.now b.0 c.in_ok-head.head c.first_lines.new.lines.rest.now lines (sym c.in_ok-heading.ensures.fault) s.0 (parted 10 c.sheet.new.lines.rest.now) s.1.is r.0 r.1)
    (λ i. record {
      member = (ap (λ x. x.member.number) closing ∙ h.member) i;
      segment = (ap (λ x. x.segment.number) closing ∙ h.segment) i;
      day = (ap (λ x. x.day.number) closing ∙ h.day) i;
      amount = (c.strike.ensures.amount ∙ ap (λ x. in_mils (largest_of x)) r.3) i;
    })
    (s.1.front ∙ ap (λ l. flat s.0 ++ drop (length (flat s.0)) l) c.requires.zeros ∙ padded_front (pos 0) most_changes (length c.args.changes.now) (flat s.0) c.requires.long.0)
    (padded_rest nothing_held most_positions c.in_ok-count.count c.accounts.new.held (last_of r.0) _ (omega arith) c.in_ok-count.ensures.few r.2 (filled_rest nothing_held c.in_ok-count.count c.accounts.new.held c.fill.new.self (c.fill.ensures.after (λ y h. search rules) ∙ ap (replicate _) none)))
