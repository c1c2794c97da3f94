use Rattle.std.proofs.Common.{◌≡◌, ◌≤◌, sym, ap, ◌∙◌, subst}
use Rattle.book.specs.Books.{lines_of}
use Rattle.lines.proofs.Rows.{moves_owner}
use Rattle.lines.specs.LineKeys.{row_key, same_row}
use Rattle.protocol.specs.Model.{with_line}
use Rattle.register.specs.Sound.{SoundRows}
use Rattle.register.proofs.Places.{held_set, replaced_at}
use Rattle.register.proofs.Sound.{rows_sound, row_replaced}
use Rattle.register.proofs.row_book.RowBook.move_row.Goals as goal

pub invariant_of-self : goal.invariant_of-self
invariant_of-self c =
    let self = c.args.self.now in
    let rows = lines_of self.book in
    let row = c.args.row in
    let met = c.meet.new.self in
    let own : row_key met ≡ row_key row = ap (λ p. row_key p.0) c.meet.ensures.value ∙ moves_owner row row.state c.args.event in
    let lines = held_set c.args.place met self.book c.set.new.self c.set.result c.set.ensures.cases c.requires.placed.0
    ∙ replaced_at same_row row_key (row_key row) c.args.place met rows c.requires.placed.1 in
    record {
      few = subst (λ n. n ≤ 256) (sym c.set.ensures.stays.room) self.few;
      sound =
          ∣ subst SoundRows (sym lines)
          (row_replaced (row_key row) met own rows (c.meet.ensures.bounded c.requires.bounded c.requires.fits) (rows_sound rows self.sound)) ∣₁;
    }

pub returns-clause-lines : goal.returns-clause-lines
returns-clause-lines c =
    let self = c.args.self.now in
    let rows = lines_of self.book in
    let row = c.args.row in
    let met = c.meet.new.self in
    held_set c.args.place met self.book c.set.new.self c.set.result c.set.ensures.cases c.requires.placed.0
    ∙ (replaced_at same_row row_key (row_key row) c.args.place met rows c.requires.placed.1
    ∙ ap (λ p. with_line same_row row_key (row_key row) p.0 rows) c.meet.ensures.value)
