use Rattle.std.proofs.Common.{◌≡◌, List, ◌++◌, map, Some, None, Ok, sym, ap, ◌∙◌, subst, rules}
use Rattle.book.specs.Books.{lines_of}
use Rattle.lines.specs.LineKeys.{write_key}
use Rattle.lines.specs.declared.access.AccessKey.{AccessKey}
use Rattle.lines.specs.declared.access.WriteLine.{WriteLine}
use Rattle.protocol.specs.Checks.{check_unwritten}
use Rattle.protocol.specs.Model.{read_of}
use Rattle.protocol.specs.Noting.{before_note, notes_of_read}
use Rattle.register.specs.Meetings.{met}
use Rattle.register.specs.Registers.{model}
use Rattle.register.specs.Sound.{SoundLines}
use Rattle.register.proofs.Accessing.{all_met, read_notes}
use Rattle.register.proofs.Found.{finds_read}
use Rattle.register.proofs.Registers.{same_lines, room_within, refuses}
use Rattle.register.proofs.Sound.{lines_sound, read_added}
use Rattle.register.proofs.register.Register.read.Goals as goal

pub returns-in-Some-clause-model : goal.returns-in-Some-clause-model
returns-in-Some-clause-model g c =
    let self = c.args.self.now in
    let m = model g.S.Store.cells self in
    let key : AccessKey = record { transaction = c.args.transaction; key = c.args.key } in
    let found : read_of m c.args.transaction c.args.key ≡ Some c.in-Some.line = sym ((finds_read self key).first) ∙ sym c.in-Some.ensures in
    search rules

pub returns-in_err-check_read_room-clause-model : goal.returns-in_err-check_read_room-clause-model
returns-in_err-check_read_room-clause-model g c =
    let self = c.args.self.now in
    let m = model g.S.Store.cells self in
    let key : AccessKey = record { transaction = c.args.transaction; key = c.args.key } in
    let none : read_of m c.args.transaction c.args.key ≡ None = sym ((finds_read self key).first) ∙ sym c.in_default.ensures in
    let unwritten : check_unwritten m c.args.transaction ≡ Ok tt = sym c.check_unwritten.ensures ∙ c.in_ok-check_unwritten.was in
    let many = read_notes m c.args.transaction unwritten c.args.key in
    search rules

pub returns-in_err-check_read_room-clause-refused : goal.returns-in_err-check_read_room-clause-refused
returns-in_err-check_read_room-clause-refused g c =
    refuses _ (same_lines _ _ _)

pub invariant_of-self-2 : goal.invariant_of-self-2
invariant_of-self-2 g c =
    let self = c.args.self.now in
    let m = model g.S.Store.cells self in
    let key : AccessKey = record { transaction = c.args.transaction; key = c.args.key } in
    let none = sym ((finds_read self key).first) ∙ sym c.in_default.ensures in
    record {
      sound =
          ∣ subst (λ rs. SoundLines m.transactions rs m.writes) (sym c.add_line.ensures.lines)
          (read_added m.transactions m.reads m.writes (lines_sound m.transactions m.reads m.writes self.sound) _ none) ∣₁;
      limits = (room_within _ _ 512 c.add_line.ensures.stays self.limits.0, self.limits.1);
    }

pub returns-clause-model : goal.returns-clause-model
returns-clause-model g c =
    let self = c.args.self.now in
    let m = model g.S.Store.cells self in
    let t = c.args.transaction in
    let k = c.args.key in
    let key : AccessKey = record { transaction = t; key = k } in
    let none : read_of m t k ≡ None = sym ((finds_read self key).first) ∙ sym c.in_default.ensures in
    let unwritten : check_unwritten m t ≡ Ok tt = sym c.check_unwritten.ensures ∙ c.in_ok-check_unwritten.was in
    let notes : lines_of c.add_notes.new.notes ≡ m.notes ++ notes_of_read m t k =
    c.add_notes.ensures.lines
    ∙ (ap (λ (ws : List WriteLine). m.notes ++ map (before_note k t) (met m.rows t k (map write_key ws))) c.lines.ensures
    ∙ ap (λ us. m.notes ++ map (before_note k t) us) (all_met m t unwritten k)) in
    let many = read_notes m t unwritten k in
    search rules
