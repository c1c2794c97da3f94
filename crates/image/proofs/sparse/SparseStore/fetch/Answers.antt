use Rattle.std.proofs.Common.{Some, ap, ◌∙◌}
use Rattle.image.proofs.SparsePut.{fetch_finds}
use Rattle.image.proofs.sparse.SparseStore.fetch.Goals as goal

pub returns : goal.returns
returns c =
    let s = c.args.self.now in
    ap Some c.cell.ensures
    ∙ fetch_finds s.good s.words.now c.args.key c.in_ok-i.i s.good_is c.in_ok-i.ensures.value _ _ c.as_chunks.ensures.front c.in_ok-i.ensures.bound
