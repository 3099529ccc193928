use Rattle.std.proofs.Common.{◌≡◌, ℕ, zero, suc, get_or, replicate, refl, arith}
use Rattle.terms.specs.Limits.{most_scenarios}
use Rattle.figures.proofs.kinds.Heading.open.Goals as goal

zero_at : (n k : ℕ) → ◌≡◌ {A = ℕ} (get_or (replicate n 0) k 0) 0
zero_at zero k = refl
zero_at (suc n) zero = refl
zero_at (suc n) (suc k) = zero_at n k

pub invariant_of-result : goal.invariant_of-result
invariant_of-result c = record {
  counts = (omega (arith, c.args.self.counts.0), omega (arith, c.args.self.counts.1));
  small = λ k. omega (arith, zero_at most_scenarios k);
  unused = λ k h. zero_at most_scenarios k;
}
