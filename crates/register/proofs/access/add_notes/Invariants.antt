use Rattle.std.proofs.Common.{◌≡◌, ◌++◌, map, drop}
use Rattle.book.specs.Books.{Stays, lines_of}
use Rattle.register.specs.Meetings.{met, note_by}
use Rattle.register.proofs.access.add_notes.Given as goal

-- With the notes for the lines that are left, the book holds what it will hold in the end.
abbrev pub invariant-loop-line : goal.invariant-loop-line
invariant-loop-line g l =
    let rows = lines_of l.rows.book in
    let t = l.access.transaction in
    let k = l.access.key in
    record {
      lines :
          lines_of l.notes ++ map (note_by l.side t k) (met rows t k (map g.L.Line.keyed (drop l.line-index l.lines)))
          ≡ lines_of l.initial.notes ++ map (note_by l.side t k) (met rows t k (map g.L.Line.keyed l.lines));
      stays : Stays l.initial.notes l.notes;
    }
