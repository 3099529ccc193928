-- Classes and their duties.
use Rattle.std.specs.Prelude.{ℕ, Bool, true, false, cond, Some, None, Option, ◌==◌}
use Rattle.terms.specs.declared.classes.Class.{Class}
use Rattle.terms.specs.declared.classes.Class.TheVariants.{General, Individual, Treasury, CentralBank}
use Rattle.terms.specs.declared.classes.Duty.{Duty}
use Rattle.terms.specs.declared.classes.Duty.TheVariants.{IndividualAmounts, StressAmount, FundContribution, TreasuryAmount}

-- the class of each number
abbrev pub class_of : ℕ → Option Class
class_of n = cond (n == 1) (Some General) (cond (n == 2) (Some Individual) (cond (n == 3) (Some Treasury) (cond (n == 4) (Some CentralBank) None)))

-- who owes what
abbrev pub owed : Class → Duty → Bool
owed General IndividualAmounts = true
owed General StressAmount = true
owed General FundContribution = true
owed General TreasuryAmount = false
owed Individual IndividualAmounts = true
owed Individual StressAmount = true
owed Individual FundContribution = true
owed Individual TreasuryAmount = false
owed Treasury IndividualAmounts = true
owed Treasury StressAmount = false
owed Treasury FundContribution = false
owed Treasury TreasuryAmount = true
owed CentralBank IndividualAmounts = false
owed CentralBank StressAmount = false
owed CentralBank FundContribution = false
owed CentralBank TreasuryAmount = false

abbrev pub owes_by : Option Class → Duty → Bool
owes_by None duty = false
owes_by (Some class) duty = owed class duty

-- the class of this number owes the duty
abbrev pub owes : ℕ → Duty → Bool
owes class duty = owes_by (class_of class) duty
