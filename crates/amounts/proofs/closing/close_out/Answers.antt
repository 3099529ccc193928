use Rattle.std.proofs.Common.{◌≡◌, ◌∙◌, length, take, sum, ap, refl, nat_abs, subst, arith, w64, SFits, to_z, of_z, rules}
use Rattle.std.proofs.lemmas.Int.{to_z-of_z}
use Rattle.amounts.specs.Closing.{WithinQuantity, contraries}
use Rattle.amounts.proofs.Closed.{not_0, parts_are}
use Rattle.amounts.proofs.closing.close_out.Goals as goal

pub returns : goal.returns
returns c =
    let q = c.args.quantity in
    let ps = c.args.positions.now in
    let f : SFits w64 q = search rules in
    let same : to_z w64 (of_z w64 q) ≡ q = simp to_z-of_z in
    let list = take (length ps) c.measure.new.sizes in
    let sizes : list ≡ contraries q ps = c.measure.ensures ∙ ap (λ z. contraries z ps) same in
    let size : c.unsigned_abs-size.result ≡ nat_abs q = cc in
    let within : WithinQuantity q = subst WithinQuantity same (c.if-not-is_within.ensures.0 refl) in (
      (omega arith, ((omega arith, c.if-not-all_within.ensures.0 refl), ((not_0 q (λ h. c.if-quantity-eq0.false (ap (of_z w64) h)), within), (omega (arith, size, c.whole.ensures ∙ ap sum sizes, c.if-size-whole.false), tt)))),
      parts_are q ps list c.split.new.parts c.unsigned_abs-size.result sizes size (omega (arith, c.split.auto.parts)) c.split.ensures,
    )
