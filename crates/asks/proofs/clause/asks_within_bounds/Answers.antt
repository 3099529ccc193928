use Rattle.asks.proofs.Bounding.{bounds_kept}
use Rattle.asks.proofs.clause.asks_within_bounds.Goals as goal

pub returns : goal.returns
returns c = bounds_kept
