use Rattle.std.proofs.Common.{true, get_or, refl, sym, ap, ◌∙◌}
use Rattle.std.specs.List.{list_all}
use Rattle.figures.specs.Accounts.{column_ok, raised, offset_of, positions_ok}
use Rattle.figures.proofs.Refusing.{columns_decide, limited, raised_past}
use Rattle.figures.proofs.kinds.Tally.add.Goals as goal

pub invariant_of-self : goal.invariant_of-self
invariant_of-self c =
    let s = c.in_ok-sheet.ensures in
    let h = c.in_ok-holding.ensures in
    let r = c.in_ok-raise.ensures in
    let is = r.1 ∙ (λ i. raised ((ap (λ t. t.scenarios) h.1 ∙ s.2) i) ((ap (λ t. t.changes.now) h.1 ∙ s.1) i) (c.in_ok-offset.ensures.1 i) (h.2 i) c.args.self.now.columns) in
    record {
      counts = c.args.self.now.counts;
      small = limited c.raise.new.columns (sym r.0);
      unused = λ k l. ap (λ x. get_or x k 0) is ∙ raised_past c.args.self.now.scenarios c.args.sheet.now (offset_of c.args.account) c.args.positions.now c.args.self.now.columns k l ∙ c.args.self.now.unused k l;
    }

pub returns-clause-refusal : goal.returns-clause-refusal
returns-clause-refusal c =
    let s = c.in_ok-sheet.ensures in
    let h = c.in_ok-holding.ensures in
    let r = c.in_ok-raise.ensures in
    let is = r.1 ∙ (λ i. raised ((ap (λ t. t.scenarios) h.1 ∙ s.2) i) ((ap (λ t. t.changes.now) h.1 ∙ s.1) i) (c.in_ok-offset.ensures.1 i) (h.2 i) c.args.self.now.columns) in
    columns_decide c.args.self.now.scenarios c.args.self.now.columns c.args.sheet.now c.args.account c.args.positions.now true s.0 (ap (λ n. positions_ok n c.args.positions.now) (sym s.3) ∙ h.0) c.in_ok-offset.ensures.0 (sym r.0 ∙ ap (list_all column_ok) is)

pub returns-clause-after : goal.returns-clause-after
returns-clause-after c =
    let s = c.in_ok-sheet.ensures in
    let h = c.in_ok-holding.ensures in
    record {
      closing = refl;
      scenarios = refl;
      columns = c.in_ok-raise.ensures.1 ∙ (λ i. raised ((ap (λ t. t.scenarios) h.1 ∙ s.2) i) ((ap (λ t. t.changes.now) h.1 ∙ s.1) i) (c.in_ok-offset.ensures.1 i) (h.2 i) c.args.self.now.columns);
    }
