use Rattle.std.proofs.Common.{◌∙◌}
use Rattle.register.proofs.Rows.{finds_row}
use Rattle.register.proofs.row_book.RowBook.find.Goals as goal

pub returns : goal.returns
returns c = c.find_last.ensures ∙ (finds_row c.args.self.now c.args.key).first
