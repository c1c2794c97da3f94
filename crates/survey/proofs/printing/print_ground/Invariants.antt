use Rattle.std.proofs.Common.{◌-◌}
use Rattle.base.specs.declared.place.TheConstants.{PLOTS}
use Rattle.survey.specs.Printing.{plots_from, plots_of}
use Rattle.survey.proofs.Amid.{Amid}
use Rattle.survey.proofs.printing.print_ground.Given as goal

abbrev pub invariant-loop-number : goal.invariant-loop-number
invariant-loop-number g l =
    let m = g.S.Store.cells l.store in
    Amid g.P.Printer.prints l.initial.out l.out (plots_of m l.ground) (plots_from m l.ground l.number (PLOTS - l.number)) l.plots l.fields l.number
