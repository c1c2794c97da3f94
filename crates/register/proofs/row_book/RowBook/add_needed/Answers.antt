use Rattle.std.proofs.Common.{◌≡◌, ◌≤◌, ◌++◌, ◌∷◌, [], None, sym, ap, ◌∙◌, subst}
use Rattle.book.specs.Books.{lines_of}
use Rattle.lines.specs.Locks.{row_of}
use Rattle.register.specs.Sound.{SoundRows}
use Rattle.register.proofs.Accessing.{needed_none}
use Rattle.register.proofs.Sound.{rows_sound, row_added}
use Rattle.register.proofs.row_book.RowBook.add_needed.Goals as goal

pub invariant_of-self : goal.invariant_of-self
invariant_of-self c =
    let self = c.args.self.now in
    let rows = lines_of self.book in
    let key = c.args.key in
    let first : row_of rows key.transaction key.ground ≡ None = needed_none _ (sym c.requires.needed ∙ c.if-needed.true) in
    let lines = c.add_line.ensures.lines ∙ ap (λ x. rows ++ x ∷ []) c.new.ensures in
    record {
      few = subst (λ n. n ≤ 256) (sym c.add_line.ensures.stays.room) self.few;
      sound = ∣ subst SoundRows (sym lines) (row_added rows key.transaction key.ground first (rows_sound rows self.sound)) ∣₁;
    }
