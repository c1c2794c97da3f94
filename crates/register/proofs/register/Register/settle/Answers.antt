use Rattle.std.proofs.Common.{refl, sym, ap, ap₂, ◌∙◌, rules}
use Rattle.protocol.specs.Decisions.{cells_after}
use Rattle.register.specs.Registers.{model}
use Rattle.store.specs.Stores.{none}
use Rattle.store.proofs.Putting.{puts_then}
use Rattle.register.specs.Settling.{cells_after_reads, cells_after_writes}
use Rattle.register.proofs.Registers.{same_register, same_lines, refuses}
use Rattle.register.proofs.Settlements.{settled_is, paid, no_commit}
use Rattle.register.proofs.register.Register.settle.Goals as goal

pub returns-in_default-clause-refused : goal.returns-in_default-clause-refused
returns-in_default-clause-refused g c = same_lines _ _ _

pub returns-in_err-move_row-clause-refused : goal.returns-in_err-move_row-clause-refused
returns-in_err-move_row-clause-refused g c =
    refuses _
    (same_register _ _ (record {
      store = refl;
      policy = refl;
      transactions = refl;
      rows = c.in_err-move_row.ensures.refused;
      reads = refl;
      writes = refl;
      notes = refl;
    }))

pub returns-in-Commit-clause-model : goal.returns-in-Commit-clause-model
returns-in-Commit-clause-model g c =
    let m = model g.S.Store.cells c.args.self.now in
    let t = c.args.transaction in
    let at = c.args.ground in
    let stamp = c.in-Commit.stamp in
    paid m t at c.in-Some.row c.in_ok-event.event _ _ _ _ (sym c.check_decided.ensures.event ∙ c.in_ok-event.was) c.in-Some.ensures.1
    (sym c.move_row.ensures.answer ∙ c.in_ok-move_row.was)
    (c.settle_writes.ensures.cells
    ∙ (ap₂ (λ n xs. cells_after_writes t at stamp n xs)
    (c.settle_reads.ensures.cells ∙ ap (λ xs. cells_after_reads t at stamp m.cells xs) c.lines.ensures) c.lines-in-Commit.ensures
    ∙ (settled_is m t at stamp ∙ ap (cells_after m t at) (sym c.in-Commit.is))))
    c.in_ok-move_row.ensures.lines c.move_row.ensures.stays.room

pub returns-in_default-event : goal.returns-in_default-event
returns-in_default-event g c =
    let m = model g.S.Store.cells c.args.self.now in
    record {
      model = paid m c.args.transaction c.args.ground c.in-Some.row c.in_ok-event.event _ _ _ _
          (sym c.check_decided.ensures.event ∙ c.in_ok-event.was) c.in-Some.ensures.1 (sym c.move_row.ensures.answer ∙ c.in_ok-move_row.was)
          (no_commit m c.args.transaction c.args.ground c.in_ok-event.event (λ s e. c.in_default-event.not-Commit s e))
          c.in_ok-move_row.ensures.lines c.move_row.ensures.stays.room;
      refused = tt;
      keeps = search rules;
      rest = search rules;
      store = none _;
    }

pub returns-in-Commit-clause-store : goal.returns-in-Commit-clause-store
returns-in-Commit-clause-store g c = puts_then g.S.Store.beside _ _ _ c.settle_reads.ensures.puts c.settle_writes.ensures.puts
