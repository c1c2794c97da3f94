use Rattle.std.proofs.Common.{◌≡◌, ◌++◌, map, length, take, drop}
use Rattle.book.specs.Books.{Stays, lines_of}
use Rattle.register.specs.Relations.{pushed_beside}
use Rattle.register.specs.Lookups.{relation_in}
use Rattle.register.proofs.row_book.RowBook.make_way.Given as goal

-- The rows passed have made way, the others are as they were.
abbrev pub invariant-loop-place : goal.invariant-loop-place
invariant-loop-place l =
    let rows = lines_of l.initial.self.book in
    record {
      lines : lines_of l.self.book ≡ map (pushed_beside (relation_in l.relations) l.taken) (take l.place rows) ++ drop l.place rows;
      stays : Stays l.initial.self.book l.self.book;
      long : length (lines_of l.self.book) ≡ length rows;
    }
