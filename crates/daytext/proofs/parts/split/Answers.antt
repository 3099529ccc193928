use Rattle.std.proofs.Common.{sym, ◌∙◌}
use Rattle.daytext.proofs.Cuts.{none_at, some_at, parted_last, split_cut}
use Rattle.daytext.proofs.parts.split.Goals as goal

pub returns-in_err-n : goal.returns-in_err-n
returns-in_err-n c = rw c.from_residual.ensures (parted_last c.args.sep c.args.bytes.now (none_at c.args.sep c.args.bytes.now (sym c.first.ensures ∙ c.in_err-n.was)))

pub returns : goal.returns
returns c = let at = some_at c.args.sep c.args.bytes.now c.in_ok-n.n (sym c.first.ensures ∙ c.in_ok-n.was) in split_cut c.args.sep c.args.bytes.now c.in_ok-n.n at.0 at.1
