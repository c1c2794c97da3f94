use Rattle.std.proofs.Common.{◌≡◌, ◌+◌, ◌*◌, Some, sym, ap, ◌∙◌, arith}
use Rattle.image.specs.Memory.{cell_at, cell_cause}
use Rattle.image.specs.Sparses.{sparse_line}
use Rattle.image.proofs.SparsePut.{flag_kept, sparse_put}
use Rattle.image.proofs.sparse.SparseStore.put.Goals as goal

pub invariant_of-self : goal.invariant_of-self
invariant_of-self c =
    let s = c.args.self.now in
    let i = c.in_ok-i.i in
    let at : Some i ≡ sparse_line s.good s.words.now c.args.key = grind arith in
    let sound = ap (λ vs. cell_cause vs (4 * i + 1)) (sym c.put_cell.ensures.words) ∙ c.put_cell.ensures.sound in
    record { good_is = flag_kept s.good s.words.now c.args.key i s.good_is at c.args.cell sound _ c.put_cell.ensures.words }

pub returns-clause-put : goal.returns-clause-put
returns-clause-put c =
    let s = c.args.self.now in
    let i = c.in_ok-i.i in
    let at : Some i ≡ sparse_line s.good s.words.now c.args.key = grind arith in
    let is = sym c.put_cell.ensures.words in
    let sound = ap (λ vs. cell_cause vs (4 * i + 1)) is ∙ c.put_cell.ensures.sound in
    let here = ap (λ vs. cell_at vs (4 * i + 1)) is ∙ c.put_cell.ensures.cell in
    sparse_put s.good s.words.now c.args.key i s.good_is at c.args.cell sound _ c.put_cell.ensures.words here
