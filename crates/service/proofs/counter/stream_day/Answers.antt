use Rattle.std.proofs.Common.{[], length, ap, ◌∙◌}
use Rattle.register.specs.Registers.{rooms_in}
use Rattle.service.proofs.Promises.{promised_under}
use Rattle.service.proofs.counter.stream_day.Goals as goal

pub returns : goal.returns
returns g c =
    let books = c.args.books in
    let rooms = rooms_in (length books.transactions.now) (length books.rows.now) (length books.reads.now) (length books.writes.now)
    (length books.notes.now) in
    let first = g.S.Store.cells c.args.store in
    let same = ap g.P.Policy.chosen (c.in_ok-serve_stream.ensures.keeps.policy ∙ c.new-register.ensures.policy) in
    let made = c.in_ok-serve_stream.ensures.streamed in
    let w = made.2 first rooms [] c.new-register.ensures.begins in
    (made.0, made.1, (w.0, promised_under _ _ first rooms w.0 _ same w.2, w.3))
