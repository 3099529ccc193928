-- The individual amounts: what they want, in order, and what they are.
use Rattle.std.specs.Prelude.{◌≡◌, ℕ, ◌-◌, ◌*◌, ◌≤◌, Bool, true, cond, [], ◌∷◌, is_some, MatchBool, Result}
use Rattle.terms.specs.Classes.{class_of, owes}
use Rattle.terms.specs.Limits.{amount_limit, equity_parts}
use Rattle.terms.specs.Refusing.{Judged, Wants}
use Rattle.terms.specs.declared.classes.Duty.TheVariants as duties
use Rattle.terms.specs.declared.refusals.Refusal.{Refusal}
use Rattle.terms.specs.declared.refusals.Refusal.TheVariants as refusals
use Rattle.amounts.specs.declared.given.Given.{Given}
use Rattle.amounts.specs.declared.given.Individual.{Individual}

-- every number is at most 1,000,000,000
pub record Small (g : Given) : Type 0 where
  pub minimum : g.minimum ≤ amount_limit
  pub lri : g.lri ≤ amount_limit
  pub lri_use : g.lri_use ≤ amount_limit
  pub lmc : g.lmc ≤ amount_limit
  pub lmc_use : g.lmc_use ≤ amount_limit
  pub required : g.required ≤ amount_limit
  pub equity : g.equity ≤ amount_limit

-- ten times what the equity is short of must not exceed what is required
abbrev pub EquityFits : Given → Type 0
EquityFits g = equity_parts * (g.required - g.equity) ≤ g.required

-- the class owes individual amounts
abbrev pub owing : ℕ → Bool
owing class = owes class duties.IndividualAmounts

-- the minimum, the use above each limit, and what the equity is short of; subtraction stops at 0
abbrev pub amounts_of : Given → Individual
amounts_of g = record { minimum = g.minimum; above_lri = g.lri_use - g.lri; above_lmc = g.lmc_use - g.lmc; equity = g.required - g.equity }

abbrev pub zeros : Individual
zeros = record { minimum = 0; above_lri = 0; above_lmc = 0; equity = 0 }

abbrev pub individual_wants : ℕ → Given → Wants
individual_wants class g =
    (is_some (class_of class) ≡ true, refusals.WrongClass)
    ∷ (Small g, refusals.Amount)
    ∷ (MatchBool (owing class) (EquityFits g) (Unit {0}), refusals.EquityShort)
    ∷ []

-- a class that owes none answers zeros
abbrev pub IndividualAmounts : ℕ → Given → Result Individual Refusal → Type 0
IndividualAmounts class g r = Judged (individual_wants class g) r (λ amounts. amounts ≡ cond (owing class) (amounts_of g) zeros) (Unit {0})
