use Rattle.fund.proofs.Keeping.{stay}
use Rattle.fund.proofs.laws.books_stay.Goals as goal

pub returns : goal.returns
returns c = stay
