use Rattle.std.proofs.Common.{◌∙◌, rules}
use Rattle.dayfile.proofs.Adding.{settled_fault, settled_columns}
use Rattle.dayfile.proofs.body.settle.Goals as goal

pub returns-clause-fault : goal.returns-clause-fault
returns-clause-fault c = settled_fault c.args.tally.now.scenarios c.args.sheet.now c.args.tally.now.columns c.args.held.now c.args.hand c.in-Some.«open» c.in-Some.is c.add.result c.map_err.result c.add.ensures.refusal c.map_err.ensures.cases (λ e f q. search rules)

pub returns-clause-after : goal.returns-clause-after
returns-clause-after c =
    let a = c.add.ensures.after in
    record {
      closing = a.closing;
      scenarios = a.scenarios;
      columns = a.columns ∙ settled_columns c.args.tally.now.scenarios c.args.sheet.now c.args.tally.now.columns c.args.held.now c.args.hand c.in-Some.«open» c.in-Some.is c.add.result c.add.ensures.refusal;
    }
