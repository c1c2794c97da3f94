use Rattle.std.proofs.Common.{◌≡◌, List, ◌++◌, map, Some, None, sym, ap, ap₂, ◌∙◌, subst, append_assoc, rules}
use Rattle.book.specs.Books.{lines_of}
use Rattle.lines.specs.LineKeys.{read_key, write_key, same_access}
use Rattle.lines.specs.declared.access.AccessKey.{AccessKey}
use Rattle.lines.specs.declared.access.ReadLine.{ReadLine}
use Rattle.lines.specs.declared.access.WriteLine.{WriteLine}
use Rattle.protocol.specs.Model.{write_of}
use Rattle.protocol.specs.Noting.{before_note, apart_note, notes_of_prewrite}
use Rattle.register.specs.Meetings.{met}
use Rattle.register.specs.Registers.{model}
use Rattle.register.specs.Sound.{SoundLines}
use Rattle.register.proofs.Found.{finds_write}
use Rattle.register.proofs.Places.{held_set, replaced_at, there_at}
use Rattle.register.proofs.Registers.{same_lines, room_within, refuses}
use Rattle.register.proofs.Rows.{stays_on}
use Rattle.register.proofs.Sound.{lines_sound, write_added, write_replaced}
use Rattle.register.proofs.register.Register.prewrite.Goals as goal

-- The write line there is takes the new value.
pub invariant_of-self : goal.invariant_of-self
invariant_of-self g c =
    let self = c.args.self.now in
    let m = model g.S.Store.cells self in
    let key : AccessKey = record { transaction = c.args.transaction; key = c.args.key } in
    let at = c.in-Some.ensures in
    let lines = held_set _ _ self.writes c.set.new.self c.set.result c.set.ensures.cases at.within
    ∙ replaced_at same_access write_key key c.in-Some.place _ m.writes ((finds_write self key).place c.in-Some.place (sym at.position)) in
    record {
      sound =
          ∣ subst (λ ws. SoundLines m.transactions m.reads ws) (sym lines)
          (write_replaced m.transactions m.reads m.writes (lines_sound m.transactions m.reads m.writes self.sound) _) ∣₁;
      limits = (self.limits.0, room_within _ _ 512 c.set.ensures.stays self.limits.1);
    }

pub returns-in-Some-clause-model : goal.returns-in-Some-clause-model
returns-in-Some-clause-model g c =
    let self = c.args.self.now in
    let m = model g.S.Store.cells self in
    let key : AccessKey = record { transaction = c.args.transaction; key = c.args.key } in
    let at = c.in-Some.ensures in
    let found = there_at m.writes c.in-Some.place at.within in
    let there : write_of m c.args.transaction c.args.key ≡ Some found.0 = (finds_write self key).line c.in-Some.place (sym at.position) ∙ found.1 in
    let lines = held_set _ _ self.writes c.set.new.self c.set.result c.set.ensures.cases at.within
    ∙ replaced_at same_access write_key key c.in-Some.place _ m.writes ((finds_write self key).place c.in-Some.place (sym at.position)) in
    search rules

-- Without one, the call is a first prewrite.
pub returns-in_err-check_prewrite_room-clause-model : goal.returns-in_err-check_prewrite_room-clause-model
returns-in_err-check_prewrite_room-clause-model g c =
    let self = c.args.self.now in
    let m = model g.S.Store.cells self in
    let key : AccessKey = record { transaction = c.args.transaction; key = c.args.key } in
    let none : write_of m c.args.transaction c.args.key ≡ None = (finds_write self key).nothing (sym c.in_default.ensures.position) in
    search rules

pub returns-in_err-check_prewrite_room-clause-refused : goal.returns-in_err-check_prewrite_room-clause-refused
returns-in_err-check_prewrite_room-clause-refused g c =
    refuses _ (same_lines _ _ _)

pub invariant_of-self-2 : goal.invariant_of-self-2
invariant_of-self-2 g c =
    let self = c.args.self.now in
    let m = model g.S.Store.cells self in
    let key : AccessKey = record { transaction = c.args.transaction; key = c.args.key } in
    let none = (finds_write self key).nothing (sym c.in_default.ensures.position) in
    record {
      sound =
          ∣ subst (λ ws. SoundLines m.transactions m.reads ws) (sym c.add_line.ensures.lines)
          (write_added m.transactions m.reads m.writes (lines_sound m.transactions m.reads m.writes self.sound) _ none) ∣₁;
      limits = (self.limits.0, room_within _ _ 512 c.add_line.ensures.stays self.limits.1);
    }

pub returns-clause-model : goal.returns-clause-model
returns-clause-model g c =
    let self = c.args.self.now in
    let m = model g.S.Store.cells self in
    let t = c.args.transaction in
    let k = c.args.key in
    let key : AccessKey = record { transaction = t; key = k } in
    let none : write_of m t k ≡ None = (finds_write self key).nothing (sym c.in_default.ensures.position) in
    let readers = map (λ r. before_note k r t) (met m.rows t k (map read_key m.reads)) in
    let writers = map (apart_note k t) (met m.rows t k (map write_key m.writes)) in
    let notes : lines_of c.add_notes-2.new.notes ≡ m.notes ++ notes_of_prewrite m t k =
    c.add_notes-2.ensures.lines
    ∙ (ap₂ (λ ns (ws : List WriteLine). ns ++ map (apart_note k t) (met m.rows t k (map write_key ws)))
    (c.add_notes.ensures.lines
    ∙ ap (λ (rs : List ReadLine). m.notes ++ map (λ r. before_note k r t) (met m.rows t k (map read_key rs))) c.lines.ensures)
    c.lines-2.ensures
    ∙ append_assoc m.notes readers writers) in
    search rules

pub returns-clause-keeps : goal.returns-clause-keeps
returns-clause-keeps g c =
    let notes = stays_on _ _ _ c.add_notes.ensures.stays c.add_notes-2.ensures.stays in
    search rules
