use Rattle.survey.proofs.Across.{Across}
use Rattle.survey.proofs.printing.print_plots.Given as goal

abbrev pub invariant-loop-ground : goal.invariant-loop-ground
invariant-loop-ground g l =
    Across g.P.Printer.prints l.initial.out l.out (g.S.Store.cells l.store) l.ground l.plots l.grounds l.fields
