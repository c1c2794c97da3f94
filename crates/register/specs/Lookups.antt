-- What gathered notes say.
--   relation_in k      of the transaction of k and of the one whose row this is
use Rattle.lines.specs.declared.row.Row.{Row}
use Rattle.register.specs.Relations.{relation_of}
use Rattle.register.specs.declared.relation.Relation.{Relation}
use Rattle.register.specs.declared.slots.Relations.{Relations}

-- What the notes say that it was gathered from, wherever it lies.
abbrev pub relation_in : Relations → Row → Relation
relation_in k = relation_of k.notes.now k.own.transaction k.own.ground
