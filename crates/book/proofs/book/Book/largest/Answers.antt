use Rattle.std.proofs.Common.{map, rules}
use Rattle.book.specs.Books.{lines_of}
use Rattle.book.proofs.Largest.{none_above}
use Rattle.book.proofs.book.Book.largest.Goals as goal

pub returns-clause-most : goal.returns-clause-most
returns-clause-most g c =
    let most = none_above g.L.Key.Ord.cmp g.met.L.Key.Ord.total (map g.L.Line.keyed (lines_of c.args.self.now)) in
    search rules
