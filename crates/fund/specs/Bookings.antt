-- The answer of a booking.
use Rattle.std.specs.Prelude.{Ok, Err, Result}
use Rattle.terms.specs.declared.refusals.Refusal.{Refusal}
use Rattle.fund.specs.declared.unbooked.Unbooked.{Unbooked}

-- good, or why the figure came back
abbrev pub answer_of : Result (Unit {0}) Unbooked → Result (Unit {0}) Refusal
answer_of (Ok x) = Ok x
answer_of (Err u) = Err u.refusal
