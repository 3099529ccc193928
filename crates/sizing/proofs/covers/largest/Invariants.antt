use Rattle.std.proofs.Common.{◌≡◌, drop}
use Rattle.sizing.specs.Places.{pick, pick_from}
use Rattle.sizing.specs.Meant.{means_of}
use Rattle.sizing.proofs.covers.largest.Given as goal

abbrev pub invariant-loop-place : goal.invariant-loop-place
invariant-loop-place l = pick l.skip l.best l.most l.place (drop l.place (means_of l.means)) ≡ pick_from l.skip l.start (means_of l.means)
