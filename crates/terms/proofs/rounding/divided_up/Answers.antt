use Rattle.std.proofs.Common.{◌∙◌, arith}
use Rattle.terms.proofs.Dividing.{up_is}
use Rattle.terms.proofs.rounding.divided_up.Goals as goal

pub returns : goal.returns
returns c = c.div_ceil.ensures ∙ up_is c.args.a c.args.b (omega arith)
