use Rattle.std.proofs.Common.{refl, arith}
use Rattle.figures.proofs.Raising.{raised_all, raised_more, raised_stop}
use Rattle.figures.proofs.Refusing.{small_pass}
use Rattle.figures.proofs.checks.Holding.raise.Goals as goal

pub returns-then-column-gt-COLUMN_LIMIT : goal.returns-then-column-gt-COLUMN_LIMIT
returns-then-column-gt-COLUMN_LIMIT c =
    let h = c.args.self.now in
    (raised_stop h.sheet.scenarios h.sheet.changes.now c.args.offset.pesos h.positions.now c.args.columns.now c.loop-j.j (omega arith) (omega (arith, c.excess.ensures.is, c.loop-j.invariant.1 c.loop-j.j (omega arith))), refl)

pub loop-j-preserved : goal.loop-j-preserved
loop-j-preserved c =
    let h = c.args.self.now in
    raised_more h.sheet.scenarios h.sheet.changes.now c.args.offset.pesos h.positions.now c.args.columns.now c.loop-j.j c.loop-j.columns _ (omega arith) (omega (arith, c.excess.ensures.is, c.loop-j.invariant.1 c.loop-j.j (omega arith))) (omega arith) c.loop-j.invariant

pub returns : goal.returns
returns c =
    let h = c.args.self.now in
    (small_pass c.loop-j.columns c.loop-j.invariant.2, raised_all h.sheet.scenarios h.sheet.changes.now c.args.offset.pesos h.positions.now c.args.columns.now c.loop-j.columns c.loop-j.invariant.3 (λ k l. c.loop-j.invariant.0 k (omega arith)) (λ k l. c.loop-j.invariant.1 k (omega arith)))
