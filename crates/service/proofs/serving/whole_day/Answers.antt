use Rattle.std.proofs.Common.{[], length, ap, ◌∙◌}
use Rattle.register.specs.Registers.{rooms_in}
use Rattle.service.proofs.Promises.{promised_under}
use Rattle.service.proofs.serving.whole_day.Goals as goal

pub returns-clause-served : goal.returns-clause-served
returns-clause-served g c =
    let books = c.args.books in
    let rooms = rooms_in (length books.transactions.now) (length books.rows.now) (length books.reads.now) (length books.writes.now)
    (length books.notes.now) in
    let w = c.in_ok-serve.ensures.served (g.S.Store.cells c.args.store) rooms [] c.new-register.ensures.begins in
    let same = ap g.P.Policy.chosen (c.in_ok-serve.ensures.keeps.policy ∙ c.new-register.ensures.policy) in
    (w.0, w.3.0, w.3.1, w.3.2, promised_under _ _ (g.S.Store.cells c.args.store) rooms w.0 _ same w.2)
