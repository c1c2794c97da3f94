use Rattle.std.proofs.Common.{rules, ◌∙◌}
use Rattle.book.proofs.Last.{found_back}
use Rattle.book.proofs.book.Book.search_last.Goals as goal

pub returns-clause-position : goal.returns-clause-position
returns-clause-position g c = found_back _ (search rules) c.rposition.ensures.ran (c.iter.ensures.rest ∙ c.lines.ensures)
