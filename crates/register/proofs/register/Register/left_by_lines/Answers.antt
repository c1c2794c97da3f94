use Rattle.std.proofs.Common.{fold, sym, ap, ap₂, ◌∙◌}
use Rattle.std.specs.List.{flat_map}
use Rattle.lines.specs.declared.access.ReadLine.{ReadLine}
use Rattle.lines.specs.declared.access.WriteLine.{WriteLine}
use Rattle.protocol.specs.Validation.{read_floor, write_floor}
use Rattle.protocol.proofs.Raising.{raised_append}
use Rattle.register.specs.Ranges.{above_all}
use Rattle.register.specs.Registers.{model}
use Rattle.register.specs.declared.range.Range.{Range}
use Rattle.register.proofs.Raising.{above_each}
use Rattle.register.proofs.register.Register.left_by_lines.Goals as goal

pub returns : goal.returns
returns g c =
    let m = model g.S.Store.cells c.args.self.now in
    let t = c.args.own.transaction in
    let at = c.args.own.ground in
    let row = c.args.row.now in
    let read = λ (a : Range) (x : ReadLine). above_all a (read_floor t at x) in
    let write = λ (a : Range) (x : WriteLine). above_all a (write_floor m.cells t at x) in
    c.above_writes.ensures
    ∙ (ap₂ (λ r xs. fold write r xs) (c.above_reads-range.ensures ∙ (ap₂ (λ r xs. fold read r xs) c.of_row.ensures c.lines.ensures ∙ above_each _ _ m.reads))
    c.lines-2.ensures
    ∙ (above_each _ _ m.writes
    ∙ ap (λ l. record { lower = l; upper = row.upper })
    (sym (raised_append row.lower (flat_map (read_floor t at) m.reads) (flat_map (write_floor m.cells t at) m.writes)))))
