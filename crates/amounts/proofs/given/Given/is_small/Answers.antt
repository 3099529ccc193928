use Rattle.std.proofs.Common.{ℕ, zero, suc, ◌<◌, ◌≤◌, [], ◌∷◌, get_or, arith}
use Rattle.terms.specs.Limits.{amount_limit}
use Rattle.amounts.specs.Individual.{Small}
use Rattle.amounts.specs.declared.given.Given.{Given}
use Rattle.amounts.proofs.given.Given.is_small.Goals as goal

-- the seven numbers as a list
small_at : (g : Given) → Small g → (k : ℕ) → k < 7 → get_or (g.minimum ∷ g.lri ∷ g.lri_use ∷ g.lmc ∷ g.lmc_use ∷ g.required ∷ g.equity ∷ []) k 0 ≤ amount_limit
small_at g s zero l = s.minimum
small_at g s (suc zero) l = s.lri
small_at g s (suc (suc zero)) l = s.lri_use
small_at g s (suc (suc (suc zero))) l = s.lmc
small_at g s (suc (suc (suc (suc zero)))) l = s.lmc_use
small_at g s (suc (suc (suc (suc (suc zero))))) l = s.required
small_at g s (suc (suc (suc (suc (suc (suc zero)))))) l = s.equity
small_at g s (suc (suc (suc (suc (suc (suc (suc k))))))) l = absurd (omega arith)

pub returns : goal.returns
returns c = (
  λ yes.
      let at = c.all_small.ensures.0 yes in
      record {
        minimum = at 0 (omega arith);
        lri = at 1 (omega arith);
        lri_use = at 2 (omega arith);
        lmc = at 3 (omega arith);
        lmc_use = at 4 (omega arith);
        required = at 5 (omega arith);
        equity = at 6 (omega arith);
      },
  λ small. c.all_small.ensures.1 (small_at c.args.self.now small),
)
