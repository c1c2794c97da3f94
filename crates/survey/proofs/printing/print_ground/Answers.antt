use Rattle.std.proofs.Common.{◌≡◌, ℕ, ◌+◌, ◌-◌, List, Ok, Err, Some, map, subst, ap, ◌∙◌, arith, rules}
use Rattle.std.specs.Result.{result_err}
use Rattle.base.specs.declared.place.TheConstants.{PLOTS}
use Rattle.survey.specs.declared.listing.Listing.{Listing}
use Rattle.survey.specs.Plots.{field_count}
use Rattle.survey.specs.Printing.{Prints, fields_in, listing, plots_from, plots_of}
use Rattle.survey.specs.Texts.{listing_text}
use Rattle.survey.proofs.Amid.{Amid, amid_start, amid_printed, amid_passed, amid_stopped, amid_ended, plots_counted, fields_counted, line_of, with_fields, without_fields, past_all}
use Rattle.survey.proofs.printing.print_ground.Goals.{then-count-gt0+in_ok-print, else-count-gt0}
use Rattle.survey.proofs.printing.print_ground.Goals as goal

pub loop-number-init : goal.loop-number-init
loop-number-init g c = amid_start g.P.Printer.prints c.args.out.now (plots_of (g.S.Store.cells c.args.store.now) c.args.ground) 0

pub returns-in_err-print-clause-prints : goal.returns-in_err-print-clause-prints
returns-in_err-print-clause-prints g c =
    let m = g.S.Store.cells c.args.store.now in
    let n = c.loop-number.number in
    let x = listing m c.args.ground n in
    let all = plots_of m c.args.ground in
    let count : c.fields-count.result ≡ fields_in x = c.fields-count.ensures.value ∙ ap field_count c.fetch-plot.ensures in
    let at = λ (ls : List Listing). Amid g.P.Printer.prints c.args.out.now c.loop-number.out all ls c.loop-number.plots c.loop-number.fields n in
    let text = c.as_str.ensures.value ∙ (c.text.ensures ∙ line_of m c.args.ground n c.fetch-plot.result c.fetch-plot.ensures) in
    let printed = subst (λ (t : List ℕ). g.P.Printer.prints c.loop-number.out t (Err c.in_err-print.field-0.0) c.print.new.self) text c.in_err-print.ensures in
    let here = subst at (with_fields m c.args.ground n c.loop-number-test.true (omega arith)) c.loop-number.invariant in
    let e : Some c.in_err-print.field-0.0 ≡ result_err c.from_residual.result = search rules in
    subst (λ o. Prints g.P.Printer.prints c.args.out.now (map listing_text all) o c.print.new.self) e
    (amid_stopped _ _ _ _ _ _ _ _ x c.print.new.self c.in_err-print.field-0.0 printed here)

pub overflow_add-plots : goal.overflow_add-plots
overflow_add-plots g c = let few = c.loop-number.invariant.few_plots in omega arith

pub overflow_add-fields : goal.overflow_add-fields
overflow_add-fields g c = let few = c.loop-number.invariant.few_fields in omega (arith, c.fields-count.ensures.bound)

pub loop-number-preserved : goal.loop-number-preserved
loop-number-preserved g c =
    let m = g.S.Store.cells c.args.store.now in
    let n = c.loop-number.number in
    let x = listing m c.args.ground n in
    let rest = plots_from m c.args.ground (n + 1) (PLOTS - (n + 1)) in
    let all = plots_of m c.args.ground in
    let count : c.fields-count.result ≡ fields_in x = c.fields-count.ensures.value ∙ ap field_count c.fetch-plot.ensures in
    let inv = c.loop-number.invariant in
    let at = λ (ls : List Listing). Amid g.P.Printer.prints c.args.out.now c.loop-number.out all ls c.loop-number.plots c.loop-number.fields n in
    elim c.if-count-gt0.branch [
      | then-count-gt0+in_ok-print w ↦
          let text = w.as_str.ensures.value ∙ (w.text.ensures ∙ line_of m c.args.ground n c.fetch-plot.result c.fetch-plot.ensures) in
          let printed = subst (λ (t : List ℕ). g.P.Printer.prints c.loop-number.out t (Ok tt) w.print.new.self) text w.in_ok-print.ensures in
          let here = subst at (with_fields m c.args.ground n c.loop-number-test.true (omega arith)) inv in
          rw (w.out-is, w.plots-is, w.fields-is, count) (amid_printed _ _ _ _ _ _ _ _ x w.print.new.self (omega arith) printed here)
      | else-count-gt0 w ↦
          rw (w.out-is, w.plots-is, w.fields-is)
          (amid_passed _ _ _ _ _ _ _ _ (subst at (without_fields m c.args.ground n c.loop-number-test.true (omega arith)) inv))
    ]

pub returns-clause-prints : goal.returns-clause-prints
returns-clause-prints g c = amid_ended _ _ _ _ _ _ _ _ (past_all _ _ c.loop-number.number c.loop-number-test.false) c.loop-number.invariant

pub returns-clause-plots : goal.returns-clause-plots
returns-clause-plots g c = plots_counted _ _ _ _ _ _ _ _ (past_all _ _ c.loop-number.number c.loop-number-test.false) c.loop-number.invariant

pub returns-clause-fields : goal.returns-clause-fields
returns-clause-fields g c = fields_counted _ _ _ _ _ _ _ _ (past_all _ _ c.loop-number.number c.loop-number-test.false) c.loop-number.invariant

pub returns-clause-few : goal.returns-clause-few
returns-clause-few g c =
    let plots = c.loop-number.invariant.few_plots in
    let fields = c.loop-number.invariant.few_fields in
    (omega arith, omega arith)
