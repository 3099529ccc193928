use Rattle.std.proofs.Common.{◌≡◌, ◌-◌, ◌≤◌, ◌++◌, length, take, drop, replicate}
use Rattle.terms.proofs.lists.fill.Given as goal

abbrev pub invariant-loop-i : goal.invariant-loop-i
invariant-loop-i g l = (l.list ≡ (take l.from l.initial.list ++ replicate (l.i - l.from) l.value) ++ drop l.i l.initial.list) × (length l.initial.list ≤ l.from → l.i ≡ l.from)
