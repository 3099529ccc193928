use Rattle.std.proofs.Common.{◌+◌, ◌≤◌, length}
use Rattle.fundroom.proofs.Room.play.Given as goal

abbrev pub invariant-loop-rest : goal.invariant-loop-rest
invariant-loop-rest l = l.ended + length l.rest ≤ length l.journal

abbrev pub decreases-loop-rest : goal.decreases-loop-rest
decreases-loop-rest l = length l.rest
