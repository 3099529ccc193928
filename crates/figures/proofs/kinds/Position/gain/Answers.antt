use Rattle.std.proofs.Common.{arith, w64, SFits}
use Rattle.std.proofs.lemmas.Int.{to_z-of_z}
use Rattle.figures.proofs.Sizes.{product_small, quantity_fits, fits64}
use Rattle.figures.proofs.kinds.Position.gain.Goals as goal

pub overflow_mul-result : goal.overflow_mul-result
overflow_mul-result c =
    let fq : SFits w64 c.args.self.now.quantity = quantity_fits _ c.requires.0 in
    let fc = c.ranges.change in
    simp to_z-of_z (fits64 _ (omega (arith, product_small c.args.self.now.quantity c.args.change c.requires.0 c.requires.1)))
