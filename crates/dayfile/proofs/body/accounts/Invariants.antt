use Rattle.std.proofs.Common.{◌≡◌, List, length}
use Rattle.dayfile.specs.Days.{Entry, taking}
use Rattle.dayfile.proofs.Turns.{Sofar}
use Rattle.dayfile.proofs.body.accounts.Given as goal

abbrev pub invariant-loop-line : goal.invariant-loop-line
invariant-loop-line l =
    ((done : List Entry) × Sofar (record { add = taking l.initial.tally.scenarios l.sheet; columns = l.initial.tally.columns; bytes = l.initial.lines.rest.now; first = l.initial.lines.number }) (record { rest = l.lines.rest.now; n = l.lines.number; begun = l.begun; hand = l.hand; held = l.held; columns = l.tally.columns }) done)
    × (l.tally.closing ≡ l.initial.tally.closing)
    × (l.tally.scenarios ≡ l.initial.tally.scenarios)

abbrev pub decreases-loop-line : goal.decreases-loop-line
decreases-loop-line l = length l.lines.rest.now
