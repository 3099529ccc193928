use Rattle.std.proofs.Common.{arith}
use Rattle.std.proofs.lemmas.Grind.{common_steps}
use Rattle.daytext.proofs.Numerals.{decimal_long}
use Rattle.dayreport.proofs.reports.Report.put_number.Goals as goal

pub returns : goal.returns
returns c =
    let long = decimal_long c.args.n (omega arith) in
    record { wrote = grind (arith, common_steps); short = grind (arith, common_steps) }
