use Rattle.std.proofs.Common.{◌≡◌, [], ◌∷◌, Ok, Err, Some, None, Option, refl, subst, sym, ◌∙◌, rules}
use Rattle.std.specs.Result.{result_err}
use Rattle.image.specs.declared.fault.Fault.{Fault}
use Rattle.image.specs.Faults.{check_result}
use Rattle.survey.specs.Images.{image_fault}
use Rattle.survey.specs.Printing.{Prints}
use Rattle.survey.specs.Texts.{refusal_line}
use Rattle.survey.proofs.Prints.{prints_one}
use Rattle.survey.proofs.printing.print_image.Goals as goal

-- What a check answered is what it found.
found : (o : Option Fault) (f : Fault) → Err f ≡ check_result o → o ≡ Some f
found None f e = cc
found (Some g) f e = cc

pub returns-in_err-print : goal.returns-in_err-print
returns-in_err-print g c =
    let fault = found (image_fault c.args.words.now c.args.left) c.in-Err.fault (sym c.in-Err.is ∙ c.check_image.ensures) in
    let line = c.as_str.ensures.value ∙ c.refusal_line.ensures in
    let printed = prints_one g.Q.Printer.prints _ _ (refusal_line c.in-Err.fault) _ (Err c.in_err-print.field-0.0) line c.in_err-print.ensures in
    let e : Some c.in_err-print.field-0.0 ≡ result_err c.from_residual.result = search rules in
    rw fault (subst (λ o. Prints g.Q.Printer.prints c.args.errors.now (refusal_line c.in-Err.fault ∷ []) o c.print.new.self) e printed, refl, search rules)

pub returns-in-Err : goal.returns-in-Err
returns-in-Err g c =
    let fault = found (image_fault c.args.words.now c.args.left) c.in-Err.fault (sym c.in-Err.is ∙ c.check_image.ensures) in
    let line = c.as_str.ensures.value ∙ c.refusal_line.ensures in
    rw fault (prints_one g.Q.Printer.prints _ _ (refusal_line c.in-Err.fault) _ (Ok tt) line c.in_ok-print.ensures, refl, refl)
