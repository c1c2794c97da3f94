use Rattle.std.proofs.Common.{◌≡◌, ◌+◌, ◌≤◌, ◌++◌, ◌∷◌, Bool, true, false, cond, length, map, drop, sym, ap, ◌∙◌, subst}
use Rattle.book.specs.Books.{Stays, AddsLine, room, lines_of}
use Rattle.book.specs.declared.book.Book.{Book}
use Rattle.lines.specs.declared.access.AccessKey.{AccessKey}
use Rattle.lines.specs.declared.note.Note.{Note}
use Rattle.register.specs.Meetings.{is_met, met, note_by}
use Rattle.register.proofs.Added.{next_added, room_for_all}
use Rattle.register.proofs.Meetings.{met_from}
use Rattle.register.proofs.Rows.{stays_on}
use Rattle.register.proofs.access.add_notes.Goals as goal
use Rattle.register.proofs.access.add_notes.Goals.{then-is_met, else-is_met}

pub loop-line-preserved : goal.loop-line-preserved
loop-line-preserved g c =
    let rows = lines_of c.args.rows.now.book in
    let t = c.args.access.transaction in
    let k = c.args.access.key in
    let key = g.L.Line.keyed in
    let i = c.loop-line.line-index in
    let xs = c.args.lines.now in
    let note = note_by c.args.side t k in
    let first = lines_of c.args.notes.now in
    let all = first ++ map note (met rows t k (map key xs)) in
    let next = met_from rows t k key xs i c.line-item.result c.loop-line-test.true c.line-item.is in
    let item = c.line-item.result in
    let u = (key item).transaction in
    let rest = met rows t k (map key (drop (i + 1) xs)) in
    let holds : c.is_met.result ≡ is_met rows t k (key item) = c.is_met.ensures ∙ ap (is_met rows t k) c.key-line.ensures in
    let left = λ (b : Bool) (e : is_met rows t k (key item) ≡ b).
    ap (λ ms. lines_of c.loop-line.notes ++ map note ms) (sym (next ∙ ap (λ d. cond d (u ∷ rest) rest) e)) ∙ c.loop-line.invariant.lines in
    elim c.if-is_met.branch [
      | then-is_met w ↦
          let named : w.note.result ≡ note u = w.note.ensures ∙ ap (λ (a : AccessKey). note a.transaction) c.key-line.ensures in
          let added = subst (λ x. AddsLine x c.loop-line.notes w.add.new.self w.add.result) named w.add.ensures.cases in
          let fits = room_for_all note (met rows t k (map key xs)) first (room c.args.notes.now) c.requires in
          let roomy : length all ≤ room c.loop-line.notes = subst (λ n. length all ≤ n) (sym c.loop-line.invariant.stays.room) fits in
          record {
            lines =
                ap (λ (b : Book Note). lines_of b ++ map note rest) w.notes-is
                ∙ next_added note u rest all c.loop-line.notes w.add.new.self w.add.result added (left true (sym holds ∙ w.if-is_met.true)) roomy;
            stays = subst (Stays c.args.notes.now) (sym w.notes-is) (stays_on _ _ _ c.loop-line.invariant.stays w.add.ensures.stays);
          }
      | else-is_met w ↦
          record {
            lines = ap (λ (b : Book Note). lines_of b ++ map note rest) w.notes-is ∙ left false (sym holds ∙ w.if-is_met.false);
            stays = subst (Stays c.args.notes.now) (sym w.notes-is) c.loop-line.invariant.stays;
          }
    ]
