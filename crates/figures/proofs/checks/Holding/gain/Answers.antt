use Rattle.std.proofs.Common.{◌+◌, ◌*◌, ◌≤◌, ◌+ℤ◌, nat_abs, arith, w64, SFits}
use Rattle.std.proofs.lemmas.Int.{to_z-of_z}
use Rattle.figures.specs.Accounts.{product_limit}
use Rattle.figures.proofs.Raising.{gain_more}
use Rattle.figures.proofs.Sizes.{sum_small, fits64}
use Rattle.figures.proofs.checks.Holding.gain.Goals as goal

pub loop-p-preserved : goal.loop-p-preserved
loop-p-preserved c =
    let so = simp c.loop-p.sum-is at c.loop-p.invariant in
    let fg : SFits w64 c.gain-sum.result = record { sfits = c.gain-sum.type_inv } in
    let fc : SFits w64 c.change.result = record { sfits = c.change.type_inv } in
    let worth = simp to_z-of_z at c.gain-sum.ensures.is in
    let small : nat_abs (c.loop-p.sum +ℤ c.gain-sum.result) ≤ (c.loop-p.p-index + 1) * product_limit = omega (arith, sum_small c.loop-p.sum c.gain-sum.result _ _ so.1 c.gain-sum.ensures.bounded) in
    let fs : SFits w64 (c.loop-p.sum +ℤ c.gain-sum.result) = fits64 _ (omega (arith, c.args.self.now.few)) in
    simp (c.loop-p.sum-is, to_z-of_z) (gain_more c.args.self.now.sheet.changes.now c.args.self.now.sheet.scenarios c.args.scenario c.args.self.now.positions.now c.loop-p.p-index _ c.loop-p.sum c.change.result c.gain-sum.result c.loop-p-test.true so.0 c.change.ensures.is worth, small)
