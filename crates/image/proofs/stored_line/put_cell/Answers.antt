use Rattle.std.proofs.Common.{◌∙◌, arith}
use Rattle.image.proofs.Cells.{three_spliced}
use Rattle.image.proofs.stored_line.put_cell.Goals as goal

pub returns-clause-words : goal.returns-clause-words
returns-clause-words c =
    rw (c.copy_from_slice.ensures.after ∙ c.cell_words.ensures.words)
    (three_spliced c.args.words.now c.args.at _ _ _ _ (omega arith) c.requires)
