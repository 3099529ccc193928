use Rattle.std.proofs.Common.{◌≡◌, ◌+◌, ◌<◌, ◌≤◌, length}
use Rattle.journal.specs.Days.{day_length}
use Rattle.journal.proofs.Reaching.{reached_in}
use Rattle.journal.proofs.days.day_file.Given as goal

abbrev pub invariant-loop-others : goal.invariant-loop-others
invariant-loop-others l = record {
  is : day_length l.bytes + length l.rest ≡ length l.bytes + reached_in l.rest;
  within : length l.rest ≤ length l.bytes;
  some : 0 < length l.bytes → length l.rest < length l.bytes;
}

abbrev pub decreases-loop-others : goal.decreases-loop-others
decreases-loop-others l = length l.rest
