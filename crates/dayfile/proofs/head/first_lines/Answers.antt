use Rattle.std.proofs.Common.{◌≡◌, arith}
use Rattle.std.proofs.lemmas.Result.{err_from_is_err_and}
use Rattle.daytext.specs.Text.{parted}
use Rattle.dayfile.proofs.Steps.{third_bad, fourth_bad, fifth_bad}
use Rattle.dayfile.proofs.head.first_lines.Goals as goal

pub returns-in_err-value-2-clause-is : goal.returns-in_err-value-2-clause-is
returns-in_err-value-2-clause-is c =
    let p = err_from_is_err_and c.from_residual-in_err-value-2.result c.from_residual-in_err-value-2.ensures.1 in
    let n₂ : c.value.new.self.number ≡ 2 = omega (arith, c.requires, c.in_ok-form.ensures.on) in
    let n₃ : c.value-2.new.self.number ≡ 3 = omega (arith, n₂, c.in_ok-value.ensures.on) in
    rw (p.1, p.2) (third_bad (parted 10 c.args.lines.now.rest.now) (parted 10 c.value.new.self.rest.now) (parted 10 c.value-2.new.self.rest.now) c.args.lines.now.number c.value.new.self.number c.in_ok-form.form c.in_ok-value.field-0 c.requires n₂ c.if-form-ne1.false c.in_ok-form.ensures.is c.in_ok-value.ensures.is c.value-2.new.self.number n₃ _ c.in_err-value-2.ensures.is)

pub returns-in_err-value-3-clause-is : goal.returns-in_err-value-3-clause-is
returns-in_err-value-3-clause-is c =
    let p = err_from_is_err_and c.from_residual-in_err-value-3.result c.from_residual-in_err-value-3.ensures.1 in
    let n₂ : c.value.new.self.number ≡ 2 = omega (arith, c.requires, c.in_ok-form.ensures.on) in
    let n₃ : c.value-2.new.self.number ≡ 3 = omega (arith, n₂, c.in_ok-value.ensures.on) in
    let n₄ : c.value-3.new.self.number ≡ 4 = omega (arith, n₃, c.in_ok-value-2.ensures.on) in
    rw (p.1, p.2) (fourth_bad (parted 10 c.args.lines.now.rest.now) (parted 10 c.value.new.self.rest.now) (parted 10 c.value-2.new.self.rest.now) c.args.lines.now.number c.value.new.self.number c.in_ok-form.form c.in_ok-value.field-0 c.requires n₂ c.if-form-ne1.false c.in_ok-form.ensures.is c.in_ok-value.ensures.is c.value-2.new.self.number n₃ (parted 10 c.value-3.new.self.rest.now) c.in_ok-value-2.field-0 c.value-3.new.self.number n₄ c.in_ok-value-2.ensures.is _ c.in_err-value-3.ensures.is)

pub returns-in_err-value-4-clause-is : goal.returns-in_err-value-4-clause-is
returns-in_err-value-4-clause-is c =
    let p = err_from_is_err_and c.from_residual-in_err-value-4.result c.from_residual-in_err-value-4.ensures.1 in
    let n₂ : c.value.new.self.number ≡ 2 = omega (arith, c.requires, c.in_ok-form.ensures.on) in
    let n₃ : c.value-2.new.self.number ≡ 3 = omega (arith, n₂, c.in_ok-value.ensures.on) in
    let n₄ : c.value-3.new.self.number ≡ 4 = omega (arith, n₃, c.in_ok-value-2.ensures.on) in
    let n₅ : c.value-4.new.self.number ≡ 5 = omega (arith, n₄, c.in_ok-value-3.ensures.on) in
    rw (p.1, p.2) (fifth_bad (parted 10 c.args.lines.now.rest.now) (parted 10 c.value.new.self.rest.now) (parted 10 c.value-2.new.self.rest.now) c.args.lines.now.number c.value.new.self.number c.in_ok-form.form c.in_ok-value.field-0 c.requires n₂ c.if-form-ne1.false c.in_ok-form.ensures.is c.in_ok-value.ensures.is c.value-2.new.self.number n₃ (parted 10 c.value-3.new.self.rest.now) c.in_ok-value-2.field-0 c.value-3.new.self.number n₄ c.in_ok-value-2.ensures.is (parted 10 c.value-4.new.self.rest.now) c.in_ok-value-3.field-0 c.value-4.new.self.number n₅ c.in_ok-value-3.ensures.is _ c.in_err-value-4.ensures.is)
