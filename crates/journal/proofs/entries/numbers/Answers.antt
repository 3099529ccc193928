use Rattle.std.proofs.Common.{◌-◌, ap, ◌∙◌, arith, rules, take}
use Rattle.daytext.specs.Fields.{left}
use Rattle.journal.specs.Entries.{numbers_of}
use Rattle.journal.proofs.Fields.{field_read, read_before}
use Rattle.journal.proofs.entries.numbers.Goals as goal

pub loop-number-preserved : goal.loop-number-preserved
loop-number-preserved g c =
    let ns = c.loop-number.number-items in
    let i = c.loop-number.number-index in (
      c.loop-number.invariant.0
          ∙ ap (λ fs. read_before (take i ns) (numbers_of (g.row.N - i) fs)) c.in_ok-next.ensures.steps
          ∙ field_read ns i g.row.N c.in_ok-next.field-0.now (left c.next.new.self) c.in_ok-number.field-0 (omega arith) (omega arith) (search rules),
      search rules,
    )
