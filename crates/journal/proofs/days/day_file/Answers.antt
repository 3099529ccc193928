use Rattle.std.proofs.Common.{◌≡◌, true, false, codes, arith, rules}
use Rattle.journal.specs.Days.{begins}
use Rattle.journal.proofs.Reaching.{at_end, at_form, behind_first, reached_end, reached_on}
use Rattle.journal.proofs.days.day_file.Goals.{then-loop-others-test+else-not-is_day_file, else-loop-others-test}
use Rattle.journal.proofs.days.day_file.Goals as goal

pub loop-others-init : goal.loop-others-init
loop-others-init c = record { is = behind_first _ _ c.after_line-rest.ensures.is; within = omega arith; some = λ some. omega arith }

pub returns-then-is_end-clause-is : goal.returns-then-is_end-clause-is
returns-then-is_end-clause-is c =
    let other : begins (codes "form=") c.loop-others.rest.now ≡ false = search rules in
    let last : begins (codes "end=") c.loop-others.rest.now ≡ true = search rules in
    let end = reached_end c.loop-others.rest.now c.after_line-others.result.now other last c.after_line-others.ensures.is in
    omega arith

pub loop-others-preserved : goal.loop-others-preserved
loop-others-preserved c =
    let other : begins (codes "form=") c.loop-others.rest.now ≡ false = search rules in
    let last : begins (codes "end=") c.loop-others.rest.now ≡ false = search rules in
    let on = reached_on c.loop-others.rest.now c.after_line-others.result.now other last c.after_line-others.ensures.is in
    record { is = omega arith; within = omega arith; some = λ some. omega arith }

pub returns-clause-is : goal.returns-clause-is
returns-clause-is c = elim c.loop-others-test.branch [
  | then-loop-others-test+else-not-is_day_file w ↦ let here = at_form c.loop-others.rest.now (search rules) in omega arith
  | else-loop-others-test w ↦ let here = at_end c.loop-others.rest.now (search rules) in omega arith
]
