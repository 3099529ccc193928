use Rattle.daytext.proofs.Texts.{stand}
use Rattle.daytext.proofs.numbers.numbers_stand.Goals as goal

pub returns : goal.returns
returns c = stand
