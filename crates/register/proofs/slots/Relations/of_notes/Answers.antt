use Rattle.std.proofs.Common.{◌%◌, [], get_or, set, take, length, replicate, None, refl, sym, ap, ap₂, ◌∙◌, subst}
use Rattle.std.proofs.lemmas.List.{length-set, take_more, take_all}
use Rattle.protocol.specs.Among.{other_party}
use Rattle.register.specs.Slots.{is_for, slot_with, empty_slot, entered, AreTold}
use Rattle.register.specs.declared.relation.Relation.{Relation}
use Rattle.register.proofs.Telling.{no_note, told_by, told_none, told_same, told_slot, told_entered}
use Rattle.register.proofs.slots.Relations.of_notes.Goals as goal
use Rattle.register.proofs.slots.Relations.of_notes.Goals.{in-Some+then-is_for, in-Some+else-is_for, in_default}

pub loop-note-init : goal.loop-note-init
loop-note-init c = record {
  long = refl;
  told =
      subst (λ (q : Relation). AreTold (replicate 64 (record { of = None; relation = q })) c.new-entries.result [] c.args.own) (sym c.none.ensures)
      (subst (λ es. AreTold (replicate 64 empty_slot) es [] c.args.own) (sym c.new-entries.ensures) (told_none c.args.own));
}

-- One more note says something of the transaction, or nothing.
pub loop-note-preserved : goal.loop-note-preserved
loop-note-preserved c =
    let notes = c.args.notes.now in
    let slots = c.loop-note.slots in
    let entries = c.loop-note.entries in
    let own = c.args.own in
    let i = c.loop-note.note-index in
    let note = get_or notes i no_note in
    let passed = take i notes in
    let more = take_more notes i no_note c.loop-note-test.true in
    let u = other_party note own.transaction in
    let long = c.loop-note.invariant.long in
    let told = c.loop-note.invariant.told in
    elim c.match-side_at.branch [
      | in-Some+then-is_for w ↦
          let side = w.in-Some.side in
          let other = w.other_party-other.ensures in
          let at = w.slot_of-slot.ensures ∙ ap (λ u. u % 64) other in
          let free = sym (w.is_for.ensures ∙ ap₂ (λ j u. is_for (get_or slots j empty_slot) u) at other) ∙ w.if-is_for.true in
          let put = w.with.ensures ∙ ap₂ (λ j u. slot_with (get_or slots j empty_slot) u side) at other in
          let written = w.slots-is ∙ ap₂ (set slots) at put in
          record {
            long = ap length written ∙ (length-set slots (u % 64) (slot_with (get_or slots (u % 64) empty_slot) u side) ∙ long);
            told =
                told_by own written w.entries-is more
                (told_slot own note passed side (sym c.side_at.ensures ∙ w.in-Some.is) slots entries told long free);
          }
      | in-Some+else-is_for w ↦
          let side = w.in-Some.side in
          let other = w.other_party-other.ensures in
          let at = w.slot_of-slot.ensures ∙ ap (λ u. u % 64) other in
          let taken = sym (w.is_for.ensures ∙ ap₂ (λ j u. is_for (get_or slots j empty_slot) u) at other) ∙ w.if-is_for.false in
          let put = w.entries-is ∙ (w.enter.ensures ∙ ap (λ u. entered entries u side) other) in
          record {
            long = ap length w.slots-is ∙ long;
            told =
                told_by own w.slots-is put more (told_entered own note passed side (sym c.side_at.ensures ∙ w.in-Some.is) slots entries told taken);
          }
      | in_default w ↦ record {
        long = ap length w.slots-is ∙ long;
        told =
            told_by own w.slots-is w.entries-is more (told_same own note passed slots entries (sym c.side_at.ensures ∙ w.in_default.is) told);
      }
    ]

pub invariant_of-result : goal.invariant_of-result
invariant_of-result c =
    let all = take_all c.loop-note.note-index c.args.notes.now c.loop-note-test.false in
    record { told = ∣ subst (λ ns. AreTold c.loop-note.slots c.loop-note.entries ns c.args.own) all c.loop-note.invariant.told ∣₁ }
