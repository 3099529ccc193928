use Rattle.std.proofs.Common.{◌≡◌, ◌^◌, ◌<◌, drop}
use Rattle.daytext.specs.Text.{digits}
use Rattle.daytext.proofs.numbers.digits_value.Given as goal

abbrev pub invariant-loop-b : goal.invariant-loop-b
invariant-loop-b l = (digits l.n (drop l.b-index l.text) ≡ digits 0 l.text) × (l.n < 10 ^ l.b-index)
