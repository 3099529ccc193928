use Rattle.figures.proofs.Raising.{Upto}
use Rattle.figures.proofs.checks.Holding.raise.Given as goal

abbrev pub invariant-loop-j : goal.invariant-loop-j
invariant-loop-j l = Upto l.self.sheet.scenarios l.self.sheet.changes.now l.offset.pesos l.self.positions.now l.initial.columns l.j l.columns
