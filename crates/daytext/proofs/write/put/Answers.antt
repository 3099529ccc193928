use Rattle.std.proofs.Common.{arith}
use Rattle.daytext.proofs.Laying.{laid_part}
use Rattle.daytext.proofs.write.put.Goals as goal

pub returns-clause-bytes : goal.returns-clause-bytes
returns-clause-bytes c = laid_part c.args.out.now c.args.at _ c.copy_from_slice.new.self c.args.text.now (omega arith) (omega arith) c.copy_from_slice.ensures.after
