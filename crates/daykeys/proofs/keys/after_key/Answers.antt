use Rattle.std.proofs.Common.{sym, rules}
use Rattle.daytext.proofs.Cuts.{after_none}
use Rattle.daykeys.specs.KeyTexts.{key_text}
use Rattle.daykeys.proofs.keys.after_key.Goals as goal

pub returns-in_default : goal.returns-in_default
returns-in_default c = sym (after_none (key_text c.args.key) c.args.line.now (λ t e. search rules))
