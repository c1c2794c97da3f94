use Rattle.std.proofs.Common.{◌≡◌, ◌||◌, drop}
use Rattle.register.specs.Relations.{relation_of}
use Rattle.register.proofs.relation.Relation.between.Given as goal

-- With what the notes that are left say, it is what all say.
abbrev pub invariant-loop-note : goal.invariant-loop-note
invariant-loop-note l =
    let rest = relation_of (drop l.note-index l.notes) l.own.transaction l.own.ground l.other in
    let all = relation_of l.notes l.own.transaction l.own.ground l.other in
    record {
      earlier : (l.relation.earlier || rest.earlier) ≡ all.earlier;
      later : (l.relation.later || rest.later) ≡ all.later;
      apart : (l.relation.apart || rest.apart) ≡ all.apart;
    }
