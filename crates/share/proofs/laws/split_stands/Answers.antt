use Rattle.share.proofs.Cuts.{in_proportion}
use Rattle.share.proofs.laws.split_stands.Goals as goal

pub returns : goal.returns
returns c = in_proportion
