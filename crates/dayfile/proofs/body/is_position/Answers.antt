use Rattle.std.proofs.Common.{sym}
use Rattle.std.proofs.lemmas.Bool.{true≢false}
use Rattle.dayfile.proofs.body.is_position.Goals as goal

pub returns-in_default-2 : goal.returns-in_default-2
returns-in_default-2 c =
    let none = rw c.in_default.is at c.row_of.ensures in
    ((λ e. absurd (true≢false (sym e))), (λ x. absurd ((none x.0).0 x.1)))
