use Rattle.std.proofs.Common.{refl}
use Rattle.terms.specs.Sums.{sum_to}
use Rattle.examples.specs.Worked.{Right, worked}
use Rattle.examples.proofs.examples_stand.Goals as goal

right : Right worked
unfolding sum_to
right = (refl, (refl, (refl, (refl, (refl, (refl, tt))))))

pub returns : goal.returns
returns c = right
