use Rattle.std.proofs.Common.{◌∙◌}
use Rattle.service.proofs.ProgramDay.{program_day, same_cells, same_rooms}
use Rattle.service.proofs.counter.count.Goals as goal

pub returns : goal.returns
returns g c =
    let memory = c.in_ok-memory.ensures in
    let cells =
    same_cells _ _ _ c.counter_store-store.ensures (c.deref_mut.ensures.value ∙ memory.flat) c.sparse_words-sparse.ensures in
    let rooms = same_rooms _ _ _ _ _ (c.deref_mut-2.ensures.len ∙ memory.transactions) (c.deref_mut-3.ensures.len ∙ memory.rows)
    (c.deref_mut-4.ensures.len ∙ memory.reads) (c.deref_mut-5.ensures.len ∙ memory.writes) (c.deref_mut-6.ensures.len ∙ memory.notes) in
    (_, program_day _ _ _ _ _ _ cells rooms c.in_ok-_register.ensures)
