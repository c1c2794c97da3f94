use Rattle.std.proofs.Common.{◌≡◌, ◌*◌, Some, sym, ap, ◌∙◌, arith}
use Rattle.image.specs.Flats.{flat_line}
use Rattle.image.specs.Memory.{cell_at, cell_cause}
use Rattle.image.proofs.FlatPut.{flag_kept, flat_put}
use Rattle.image.proofs.flat.FlatStore.put.Goals as goal

pub invariant_of-self : goal.invariant_of-self
invariant_of-self c =
    let s = c.args.self.now in
    let at : Some c.in_ok-i.i ≡ flat_line s.good s.burial_ground s.words.now c.args.key = grind arith in
    let sound = ap (λ vs. cell_cause vs (3 * c.in_ok-i.i)) (sym c.put_cell.ensures.words) ∙ c.put_cell.ensures.sound in
    record {
      good_is = flag_kept s.good s.burial_ground s.words.now c.args.key c.in_ok-i.i s.good_is at c.args.cell sound _
          c.put_cell.ensures.words;
    }

pub returns-clause-put : goal.returns-clause-put
returns-clause-put c =
    let s = c.args.self.now in
    let at : Some c.in_ok-i.i ≡ flat_line s.good s.burial_ground s.words.now c.args.key = grind arith in
    let is = sym c.put_cell.ensures.words in
    let sound = ap (λ vs. cell_cause vs (3 * c.in_ok-i.i)) is ∙ c.put_cell.ensures.sound in
    let here = ap (λ vs. cell_at vs (3 * c.in_ok-i.i)) is ∙ c.put_cell.ensures.cell in
    flat_put s.good s.burial_ground s.words.now c.args.key c.in_ok-i.i s.good_is at c.args.cell sound _ c.put_cell.ensures.words here
