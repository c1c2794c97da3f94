use Rattle.std.proofs.Common.{Some, ap, ◌∙◌}
use Rattle.image.proofs.FlatPut.{fetch_finds}
use Rattle.image.proofs.flat.FlatStore.fetch.Goals as goal

pub returns : goal.returns
returns c =
    let s = c.args.self.now in
    ap Some c.cell.ensures
    ∙ fetch_finds s.good s.burial_ground s.words.now c.args.key c.in_ok-i.i s.good_is c.in_ok-i.ensures.value _ _
    c.as_chunks.ensures.front c.in_ok-i.ensures.bound
