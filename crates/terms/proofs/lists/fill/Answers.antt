use Rattle.std.proofs.Common.{◌≡◌, ◌-◌, length, refl, ⊎_elim, arith}
use Rattle.std.proofs.lemmas.Bool.{cases_lt}
use Rattle.terms.proofs.Filling.{fill_start, fill_next, fill_end}
use Rattle.terms.proofs.lists.fill.Goals as goal

pub loop-i-init : goal.loop-i-init
loop-i-init g c = (fill_start c.args.list.now c.args.from c.args.value, λ h. refl)

pub loop-i-preserved : goal.loop-i-preserved
loop-i-preserved g c = (fill_next c.args.list.now c.args.from c.args.value c.loop-i.i c.loop-i.list (omega arith) (omega arith) c.loop-i.invariant.0, λ h. absurd (omega arith))

pub returns : goal.returns
returns g c =
    let same : c.loop-i.i - c.args.from ≡ length c.args.list.now - c.args.from = ⊎_elim (λ lt. omega arith) (λ le. omega (arith, c.loop-i.invariant.1 le)) (cases_lt c.args.from (length c.args.list.now)) in
    fill_end c.args.list.now c.args.from c.args.value c.loop-i.i c.loop-i.list (omega arith) same c.loop-i.invariant.0
