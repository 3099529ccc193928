use Rattle.std.proofs.Common.{◌≡◌, ◌*◌, ◌≤◌, take, nat_abs}
use Rattle.figures.specs.Accounts.{gain_in, product_limit}
use Rattle.figures.proofs.checks.Holding.gain.Given as goal

abbrev pub invariant-loop-p : goal.invariant-loop-p
invariant-loop-p l = (l.sum ≡ gain_in l.self.sheet.changes.now l.self.sheet.scenarios l.scenario (take l.p-index l.self.positions.now)) × (nat_abs l.sum ≤ l.p-index * product_limit)
