use Rattle.std.proofs.Common.{sym, ◌∙◌}
use Rattle.book.specs.Books.{lines_of}
use Rattle.lines.specs.LineKeys.{row_key, same_row}
use Rattle.lines.specs.Rows.{IsBounded}
use Rattle.register.proofs.Places.{found_key}
use Rattle.register.proofs.Rows.{finds_row, nth_holds}
use Rattle.register.proofs.Distinct.{same_row_equal}
use Rattle.register.proofs.Sound.{rows_sound}
use Rattle.register.proofs.row_book.RowBook.locate.Goals as goal

pub returns-in_err-place : goal.returns-in_err-place
returns-in_err-place c = rw c.from_residual.ensures ((finds_row c.args.self.now c.args.key).nothing (sym c.in_err-place.ensures.position))

pub returns-in_err-row : goal.returns-in_err-row
returns-in_err-row c =
    rw c.from_residual-in_err-row.ensures
    ((finds_row c.args.self.now c.args.key).line c.in_ok-place.place (sym c.in_ok-place.ensures.position) ∙ sym c.in_err-row.ensures)

pub returns : goal.returns
returns c =
    let self = c.args.self.now in
    let rows = lines_of self.book in
    let found = finds_row self c.args.key in
    let i = c.in_ok-place.place in
    let at = sym c.in_ok-place.ensures.position in
    let within = c.in_ok-place.ensures.within in
    let read = sym c.in_ok-row.ensures in
    let row = found.line i at ∙ read in (
      (within, found.place i at),
      row,
      nth_holds IsBounded rows i c.in_ok-row.row read within (rows_sound rows self.sound).bounded,
      found_key same_row row_key c.args.key (λ j. same_row_equal j c.args.key) c.in_ok-row.row rows row,
    )
