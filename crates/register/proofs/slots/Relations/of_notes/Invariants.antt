use Rattle.std.proofs.Common.{◌≡◌, take, length}
use Rattle.register.specs.Slots.{AreTold}
use Rattle.register.proofs.slots.Relations.of_notes.Given as goal

-- The slots and entries say what the notes passed say.
abbrev pub invariant-loop-note : goal.invariant-loop-note
invariant-loop-note l = record {
  long : length l.slots ≡ 64;
  told : AreTold l.slots l.entries (take l.note-index l.notes) l.own;
}
