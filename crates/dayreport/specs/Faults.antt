-- A fault's parts.
use Rattle.std.specs.Prelude.{ℕ}
use Rattle.terms.specs.declared.refusals.Refusal.{Refusal}
use Rattle.dayreport.specs.declared.faults.Fault.{Fault}
use Rattle.dayreport.specs.declared.faults.Fault.TheVariants.{Line, Heading, Tally}

abbrev pub refusal_in : Fault → Refusal
refusal_in (Line r n) = r
refusal_in (Heading r n) = r
refusal_in (Tally r n) = r

abbrev pub line_in : Fault → ℕ
line_in (Line r n) = n
line_in (Heading r n) = n
line_in (Tally r n) = n

-- the layer's letter: L line, H heading, T tally
abbrev pub layer_in : Fault → ℕ
layer_in (Line r n) = 76
layer_in (Heading r n) = 72
layer_in (Tally r n) = 84
