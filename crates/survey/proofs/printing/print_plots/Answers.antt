use Rattle.std.proofs.Common.{◌≡◌, ◌≤◌, cond, ltb, inl, inr, Some, subst, ◌∙◌, arith, rules}
use Rattle.std.specs.Result.{result_err}
use Rattle.std.proofs.lemmas.Bool.{cases_Bool}
use Rattle.survey.specs.Printing.{Prints, plots_lines}
use Rattle.survey.proofs.Across.{across_start, across_stopped, across_ground, across_ended}
use Rattle.survey.proofs.printing.print_plots.Goals as goal

pub loop-ground-init : goal.loop-ground-init
loop-ground-init g c = across_start g.P.Printer.prints c.args.out.now (g.S.Store.cells c.args.store.now)

pub returns-in_err-more_plots : goal.returns-in_err-more_plots
returns-in_err-more_plots g c =
    let e : Some c.in_err-more_plots.field-0.0 ≡ result_err c.from_residual.result = search rules in
    subst (λ o. Prints g.P.Printer.prints c.args.out.now (plots_lines (g.S.Store.cells c.args.store.now)) o c.print_ground.new.out) e
    (across_stopped _ _ _ _ _ _ _ _ _ c.loop-ground-test.true c.loop-ground.invariant _ c.in_err-more_plots.ensures.prints)

pub overflow_add-plots : goal.overflow_add-plots
overflow_add-plots g c = let few = c.loop-ground.invariant.few_plots in omega (arith, c.in_ok-more_plots.ensures.few)

pub overflow_add-grounds : goal.overflow_add-grounds
overflow_add-grounds g c =
    let few = c.loop-ground.invariant.few_grounds in
    let p = c.in_ok-more_plots.more_plots in
    let one : c.from-grounds.result ≤ 1 =
    elim (cases_Bool (ltb 0 p)) [
      | inl t ↦ let e : c.from-grounds.result ≡ 1 = (rw t at c.from-grounds.ensures) in omega arith
      | inr f ↦ let e : c.from-grounds.result ≡ 0 = (rw f at c.from-grounds.ensures) in omega arith
    ] in
    omega arith

pub overflow_add-fields : goal.overflow_add-fields
overflow_add-fields g c = let few = c.loop-ground.invariant.few_fields in omega (arith, c.in_ok-more_plots.ensures.few)

pub loop-ground-preserved : goal.loop-ground-preserved
loop-ground-preserved g c =
    let more = c.in_ok-more_plots.ensures in
    let p = c.in_ok-more_plots.more_plots in
    let one : c.from-grounds.result ≡ cond (ltb 0 p) 1 0 =
    elim (cases_Bool (ltb 0 p)) [ inl t ↦ rw t (rw t at c.from-grounds.ensures) | inr f ↦ rw f (rw f at c.from-grounds.ensures) ] in
    across_ground _ _ _ _ _ _ _ _ _ c.loop-ground-test.true c.loop-ground.invariant _ _ _ more.plots one more.fields more.few.0 more.few.1 more.prints

pub returns : goal.returns
returns g c =
    across_ended _ _ _ _ _ _ _ _ _ c.loop-ground-test.false c.loop-ground.invariant _ _ (c.as_str.ensures.value ∙ c.text.ensures) c.print.ensures
