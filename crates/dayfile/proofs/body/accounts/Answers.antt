use Rattle.std.proofs.Common.{◌+◌, Some, Err, sym, ap, subst, ◌∙◌, rules, arith}
use Rattle.std.proofs.lemmas.Result.{err_from_is_err_and}
use Rattle.terms.specs.declared.refusals.Refusal.TheVariants as refusals
use Rattle.dayreport.specs.declared.faults.Fault.TheVariants.{Line}
use Rattle.dayfile.specs.Days.{taking}
use Rattle.dayfile.proofs.Turns.{Whole, State, Sofar, in_hand, err_read, done_after, acc_not_pos, end_not_pos, rule_kept, columns_kept, refused, acc_more, end_after, end_read, count_is, unknown}
use Rattle.dayfile.proofs.body.accounts.Goals as goal

pub loop-line-preserved : goal.loop-line-preserved
loop-line-preserved c =
    let w : Whole = record { add = taking c.args.tally.now.scenarios c.args.sheet.now; columns = c.args.tally.now.columns; bytes = c.args.lines.now.rest.now; first = c.args.lines.now.number } in
    let x : State = record { rest = c.loop-line.lines.rest.now; n = c.loop-line.lines.number; begun = c.loop-line.begun; hand = c.loop-line.hand; held = c.loop-line.held; columns = c.loop-line.tally.columns } in
    let s = c.loop-line.invariant in
    let is = rw c.in-Some-Account.field-0-is at c.in-Some-Account.ensures in
    let a = sym c.in_ok-account-in-Some-Account.ensures.ok_part ∙ c.account.ensures in
    let more = acc_more w x s.0.0 s.0.1 c.in-Some.line.now c.line.new.self.rest.now c.in-Some.ensures.0 c.in-Some.ensures.1 (acc_not_pos c.in-Some.line.now c.in-Some-Account.text.now is) (rule_kept x c.args.tally.now.scenarios c.loop-line.tally.scenarios c.args.sheet.now s.2 c.in_ok-settle-in-Some-Account.ensures.fault) c.in-Some-Account.text.now is c.in_ok-account-in-Some-Account.account a in (
      (
        done_after s.0.0 (in_hand x),
        subst (λ y. Sofar w y (done_after s.0.0 (in_hand x)))
            (λ i. record {
              rest = c.line.new.self.rest.now;
              n = sym c.in-Some.ensures.2 i;
              begun = c.loop-line.begun + 1;
              hand = Some (record { line = c.loop-line.lines.number; account = c.in_ok-account-in-Some-Account.account; count = 0 });
              held = c.loop-line.held;
              columns = sym (columns_kept x c.args.tally.now.scenarios c.loop-line.tally.scenarios c.args.sheet.now s.2 c.settle-in-Some-Account.ensures.after.columns) i;
            })
            more,
      ),
      c.settle-in-Some-Account.ensures.after.closing ∙ s.1,
      c.settle-in-Some-Account.ensures.after.scenarios ∙ s.2,
    )

pub returns-then-lines-gt0-clause-is : goal.returns-then-lines-gt0-clause-is
returns-then-lines-gt0-clause-is c =
    let w : Whole = record { add = taking c.args.tally.now.scenarios c.args.sheet.now; columns = c.args.tally.now.columns; bytes = c.args.lines.now.rest.now; first = c.args.lines.now.number } in
    let x : State = record { rest = c.loop-line.lines.rest.now; n = c.loop-line.lines.number; begun = c.loop-line.begun; hand = c.loop-line.hand; held = c.loop-line.held; columns = c.loop-line.tally.columns } in
    let s = c.loop-line.invariant in
    let is = rw c.in-Some-End.field-0-is at c.in-Some-End.ensures in
    let k = sym c.in_ok-k-in-Some-End.ensures.ok_part ∙ c.plain.ensures.is in
    err_read w _ _ _ (end_after w x s.0.0 s.0.1 c.in-Some.line.now c.line.new.self.rest.now c.in-Some.ensures.0 c.in-Some.ensures.1 (end_not_pos c.in-Some.line.now c.in-Some-End.text.now is) (rule_kept x c.args.tally.now.scenarios c.loop-line.tally.scenarios c.args.sheet.now s.2 c.in_ok-settle-in-Some-End.ensures.fault) c.in-Some-End.text.now is c.in_ok-k-in-Some-End.k k c.if-k-begun.false c.if-lines-gt0.true ∙ ap (λ n. Err (Line refusals.TooLong n)) (sym c.in-Some.ensures.2))

pub returns-in-Some-End-clause-is : goal.returns-in-Some-End-clause-is
returns-in-Some-End-clause-is c =
    let w : Whole = record { add = taking c.args.tally.now.scenarios c.args.sheet.now; columns = c.args.tally.now.columns; bytes = c.args.lines.now.rest.now; first = c.args.lines.now.number } in
    let x : State = record { rest = c.loop-line.lines.rest.now; n = c.loop-line.lines.number; begun = c.loop-line.begun; hand = c.loop-line.hand; held = c.loop-line.held; columns = c.loop-line.tally.columns } in
    let s = c.loop-line.invariant in
    let is = rw c.in-Some-End.field-0-is at c.in-Some-End.ensures in
    let k = sym c.in_ok-k-in-Some-End.ensures.ok_part ∙ c.plain.ensures.is in
    end_read w x s.0.0 s.0.1 c.in-Some.line.now c.line.new.self.rest.now c.in-Some.ensures.0 c.in-Some.ensures.1 (end_not_pos c.in-Some.line.now c.in-Some-End.text.now is) (rule_kept x c.args.tally.now.scenarios c.loop-line.tally.scenarios c.args.sheet.now s.2 c.in_ok-settle-in-Some-End.ensures.fault) c.in-Some-End.text.now is c.in_ok-k-in-Some-End.k k c.if-k-begun.false (omega (arith, c.if-lines-gt0.false)) c.map_or.result (count_is _ c.loop-line.hand c.map_or.result (λ o q. search rules) c.map_or.ensures) c.settle-in-Some-End.new.tally.columns (columns_kept x c.args.tally.now.scenarios c.loop-line.tally.scenarios c.args.sheet.now s.2 c.settle-in-Some-End.ensures.after.columns)

pub returns-in_err-settle-in-None-clause-is : goal.returns-in_err-settle-in-None-clause-is
returns-in_err-settle-in-None-clause-is c =
    let w : Whole = record { add = taking c.args.tally.now.scenarios c.args.sheet.now; columns = c.args.tally.now.columns; bytes = c.args.lines.now.rest.now; first = c.args.lines.now.number } in
    let x : State = record { rest = c.loop-line.lines.rest.now; n = c.loop-line.lines.number; begun = c.loop-line.begun; hand = c.loop-line.hand; held = c.loop-line.held; columns = c.loop-line.tally.columns } in
    let s = c.loop-line.invariant in
    let p = err_from_is_err_and c.from_residual-in_err-settle-in-None.result c.from_residual-in_err-settle-in-None.ensures.1 in
    rw (p.1, p.2) (err_read w _ _ _ (refused w x s.0.0 s.0.1 c.in-Some.line.now c.line.new.self.rest.now c.in-Some.ensures.0 c.in-Some.ensures.1 (λ t. (c.in-None.ensures t).0) _ (rule_kept x c.args.tally.now.scenarios c.loop-line.tally.scenarios c.args.sheet.now s.2 c.in_err-settle-in-None.ensures.fault)))

pub returns-in-None-clause-is : goal.returns-in-None-clause-is
returns-in-None-clause-is c =
    let w : Whole = record { add = taking c.args.tally.now.scenarios c.args.sheet.now; columns = c.args.tally.now.columns; bytes = c.args.lines.now.rest.now; first = c.args.lines.now.number } in
    let x : State = record { rest = c.loop-line.lines.rest.now; n = c.loop-line.lines.number; begun = c.loop-line.begun; hand = c.loop-line.hand; held = c.loop-line.held; columns = c.loop-line.tally.columns } in
    let s = c.loop-line.invariant in
    err_read w _ _ _ (unknown w x s.0.0 s.0.1 c.in-Some.line.now c.line.new.self.rest.now c.in-Some.ensures.0 c.in-Some.ensures.1 (λ t. (c.in-None.ensures t).0) (rule_kept x c.args.tally.now.scenarios c.loop-line.tally.scenarios c.args.sheet.now s.2 c.in_ok-settle-in-None.ensures.fault) (λ t. (c.in-None.ensures t).1) (λ t. (c.in-None.ensures t).2))
