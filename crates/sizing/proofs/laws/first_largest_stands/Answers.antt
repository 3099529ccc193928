use Rattle.sizing.proofs.Firsts.{first_largest_marked}
use Rattle.sizing.proofs.laws.first_largest_stands.Goals as goal

pub returns : goal.returns
returns c = first_largest_marked
