use Rattle.std.proofs.Common.{[], ◌∷◌, ◌++◌, refl, arith}
use Rattle.std.proofs.lemmas.Result.{err_from_is_err_and}
use Rattle.terms.specs.Limits.{most_assets}
use Rattle.dayfile.proofs.SheetRows.{row_wide, rows_next, rows_bad, sheet_by, sheet_good}
use Rattle.dayfile.proofs.sheets.sheet.Goals as goal

pub returns-in_err-asset-clause-is : goal.returns-in_err-asset-clause-is
returns-in_err-asset-clause-is c =
    let p = err_from_is_err_and c.from_residual-in_err-asset.result c.from_residual-in_err-asset.ensures.1 in
    let wide = row_wide c.args.scenarios c.loop-a.a most_assets c.loop-a.out (omega (arith, c.in_ok-count.ensures.within.1)) (omega (arith, c.requires.room.0, c.loop-a.auto.out)) in
    let bad = rows_bad _ _ _ _ _ _ _ _ c.loop-a.invariant.0.1 _ _ c.loop-a.invariant.1 (omega arith) wide _ _ _ c.in_err-asset.ensures.is in
    rw (p.1, p.2, sheet_by c.args.scenarios c.args.lines.now.rest.now c.assets.new.lines.rest.now c.in_ok-count.count c.in_ok-count.ensures.is bad) refl

pub loop-a-preserved : goal.loop-a-preserved
loop-a-preserved c =
    let i = c.loop-a.invariant in
    let wide = row_wide c.args.scenarios c.loop-a.a most_assets c.loop-a.out (omega (arith, c.in_ok-count.ensures.within.1)) (omega (arith, c.requires.room.0, c.loop-a.auto.out)) in (
      (i.0.0 ++ (c.asset.new.row ∷ []), rows_next _ _ _ _ _ _ _ _ i.0.1 _ _ _ c.asset.new.lines c.asset.new.row i.1 (omega arith) wide (omega arith) c.in_ok-asset.ensures.is),
      omega (arith, i.1, c.in_ok-asset.ensures.on),
    )

pub returns-clause-is : goal.returns-clause-is
returns-clause-is c =
    sheet_good c.args.scenarios c.args.lines.now.rest.now c.assets.new.lines.rest.now c.in_ok-count.count c.in_ok-count.ensures.is c.args.out.now c.loop-a.out c.loop-a.lines _ c.loop-a.a (omega arith) c.loop-a.invariant.0.1
