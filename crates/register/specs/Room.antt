-- Lines that are written once there is room for them.
--   Extended xs b d      adding the lines xs to the book b left the book d
use Rattle.std.specs.Prelude.{◌≡◌, List, ◌++◌}
use Rattle.book.specs.Books.{Stays, lines_of}
use Rattle.book.specs.declared.book.Book.{Book}

-- The lines come after those that the book held; its room stays.
pub record Extended {L : Type 0} (xs : List L) (b d : Book L) : Type 0 where
  pub lines : lines_of d ≡ lines_of b ++ xs
  pub stays : Stays b d
