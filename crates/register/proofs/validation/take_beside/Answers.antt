use Rattle.std.proofs.Common.{List, map, sym, ap₂, ◌∙◌}
use Rattle.std.proofs.lemmas.Bool.{eqb-true}
use Rattle.std.proofs.lemmas.List.{nil_from_length}
use Rattle.lines.specs.declared.row.Row.{Row}
use Rattle.register.specs.Lookups.{relation_in}
use Rattle.register.specs.Relations.{floors_beside, ceilings_beside, pushed_beside}
use Rattle.register.specs.declared.relation.Relation.{Relation}
use Rattle.register.proofs.Pushing.{none_pushed}
use Rattle.register.proofs.Taking.{left_stamps}
use Rattle.register.proofs.validation.take_beside.Goals as goal

pub choose-requires : goal.choose-requires
choose-requires g c =
    let left = c.look_over-left.ensures in
    let q = relation_in c.of_notes-relations.result in
    let rows = c.lines.result.now in
    record {
      stamps =
          left_stamps (floors_beside q rows) (ceilings_beside q rows) c.args.range.lower c.args.range.upper _ _ left.lower left.upper c.requires.stamps.0
          c.requires.stamps.1;
    }

-- Both lists are empty.
pub returns-else-not-is_empty-2-clause-rows : goal.returns-else-not-is_empty-2-clause-rows
returns-else-not-is_empty-2-clause-rows g c =
    let rows = c.lines.result.now in
    let none = nil_from_length _ (eqb-true _ 0 (sym c.is_empty.ensures ∙ c.if-not-is_empty.false)) in
    let none_after = nil_from_length _ (eqb-true _ 0 (sym c.is_empty-else-not-is_empty.ensures ∙ c.if-not-is_empty-2.false)) in
    sym c.lines.ensures.rows
    ∙ (sym (none_pushed (relation_in c.of_notes-relations.result) c.in_ok-taken.taken rows
    (sym c.look_over-left.ensures.befores ∙ (sym c.as_slice-3.ensures ∙ none))
    (sym c.look_over-left.ensures.afters ∙ (sym c.as_slice-else-not-is_empty.ensures ∙ none_after)))
    ∙ ap₂ (λ (q : Row → Relation) (rs : List Row). map (pushed_beside q c.in_ok-taken.taken) rs) c.of_notes-relations.ensures c.lines.ensures.rows)
