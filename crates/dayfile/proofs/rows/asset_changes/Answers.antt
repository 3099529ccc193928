use Rattle.std.proofs.Common.{◌≡◌, ℕ, false, arith, ◌∷◌, [], ◌++◌, sym, ap, ◌∙◌, refl, rules, Err}
use Rattle.std.proofs.lemmas.Grind.{common_steps}
use Rattle.std.proofs.lemmas.Iterator.Splits.{YieldsList-from_slice_split}
use Rattle.std.proofs.lemmas.Result.{err_from_is_err_and}
use Rattle.std.specs.List.{slice_split}
use Rattle.std.specs.Option.{ok_or}
use Rattle.terms.specs.declared.refusals.Refusal.TheVariants as refusals
use Rattle.dayreport.specs.declared.faults.Fault.TheVariants.{Line}
use Rattle.dayfile.proofs.Steps.{err_same}
use Rattle.dayfile.proofs.ChangeRows.{Put, next_none, next_some, comma, row_start, put_in, put_past, put_out, row_bad, row_next, row_uneven, row_wild, row_full, row_fault, row_read}
use Rattle.dayfile.proofs.rows.asset_changes.Goals as goal
use Rattle.dayfile.proofs.rows.asset_changes.Goals.{then-unsigned_abs, else-unsigned_abs+then-count-row, else-unsigned_abs+else-count-row}

pub loop-field-init : goal.loop-field-init
loop-field-init c =
    let it = c.into_iter-field-iterator.result in
    let rest : it.rest.now ≡ c.args.text.now = cc in
    let done : it.done ≡ false = cc in (
      slice_split comma c.args.text.now,
      [],
      YieldsList-from_slice_split {A = ℕ} {F = Unit {0}} {s = it} _ comma {f = it.pred} c.args.text.now rest done refl (λ x b q k. search rules),
      row_start c.args.text.now c.args.row.now,
    )

pub returns-in_err-change : goal.returns-in_err-change
returns-in_err-change c =
    let s = c.loop-field.invariant in
    let n = next_some c.next.new.self c.in-Some.field s.0 s.2 c.in-Some.ensures.steps in
    let p = err_from_is_err_and c.from_residual.result c.from_residual.ensures.1 in
    let h = c.in_err-change.ensures in
    row_fault _ _ (p.1 ∙ ap Err (p.2 ∙ err_same (h.value ∙ ap (λ o. ok_or o (Line refusals.Field c.args.n)) h.ok_part))) (row_bad _ _ _ _ _ _ _ s.3 _ _ _ n.1 (sym h.ok_part ∙ c.signed.ensures.is))

pub loop-field-preserved : goal.loop-field-preserved
loop-field-preserved c =
    let s = c.loop-field.invariant in
    let n = next_some c.next.new.self c.in-Some.field s.0 s.2 c.in-Some.ensures.steps in
    let put : Put c.loop-field.row c.loop-field.count c.loop-field.ranged c.in_ok-change.change c.if-unsigned_abs.row c.if-unsigned_abs.ranged =
    elim c.if-unsigned_abs.branch [
      | then-unsigned_abs w ↦ put_out _ _ _ _ _ _ w.row-is w.ranged-is (grind arith)
      | else-unsigned_abs+then-count-row w ↦ put_in _ _ _ _ _ _ (grind (arith, common_steps)) w.ranged-is (grind arith)
      | else-unsigned_abs+else-count-row w ↦ put_past _ _ _ _ _ _ w.row-is w.ranged-is (grind arith) (omega arith)
    ] in
    (n.0, s.1 ++ (c.in_ok-change.change ∷ []), n.2, row_next _ _ _ _ _ _ _ s.3 _ _ _ _ _ n.1 (search rules) put)

pub returns-then-count-row-2 : goal.returns-then-count-row-2
returns-then-count-row-2 c =
    let s = c.loop-field.invariant in
    row_fault _ _ refl (row_uneven _ _ _ _ _ _ _ s.3 _ (next_none c.next.new.self s.0 s.2 c.in-None.ensures.steps) (omega (arith, c.if-count-row-2.true)))

pub returns-then-not-ranged : goal.returns-then-not-ranged
returns-then-not-ranged c =
    let s = c.loop-field.invariant in
    row_fault _ _ refl (row_wild _ _ _ _ _ _ _ s.3 _ (next_none c.next.new.self s.0 s.2 c.in-None.ensures.steps) (omega (arith, c.if-count-row-2.false)) c.if-not-ranged.true)

pub returns : goal.returns
returns c =
    let s = c.loop-field.invariant in
    row_read _ _ (row_full _ _ _ _ _ _ _ s.3 _ (next_none c.next.new.self s.0 s.2 c.in-None.ensures.steps) (omega (arith, c.if-count-row-2.false)) c.if-not-ranged.false)
