use Rattle.std.proofs.Common.{◌≡◌, false, sym, rules, ◌∙◌}
use Rattle.std.proofs.lemmas.Iterator.{YieldsList-from_slice}
use Rattle.std.proofs.lemmas.Iterator.Search.{any_from_yields_List}
use Rattle.std.specs.List.{list_any}
use Rattle.book.specs.Books.{lines_of}
use Rattle.register.specs.Relations.{relation_of}
use Rattle.register.specs.Slots.{names}
use Rattle.register.proofs.Relating.{none_named}
use Rattle.register.proofs.Taking.{choice_silent, rows_silent}
use Rattle.register.proofs.validation.take.Goals as goal

pub returns-else-any-clause-taken : goal.returns-else-any-clause-taken
returns-else-any-clause-taken g c =
    let notes = c.args.notes.now in
    let t = c.args.own.transaction in
    let at = c.args.own.ground in
    let none : list_any (names t) notes ≡ false =
    sym (any_from_yields_List (names t) _ _ c.any.result c.any.ensures.ran (YieldsList-from_slice notes (search rules)) (search rules)) ∙ c.if-any.false in
    c.choose.ensures.taken
    ∙ choice_silent (relation_of notes t at) (none_named notes t at none) (lines_of c.args.rows.now.book) (g.P.Policy.chosen c.args.policy.now) c.args.range.lower
    c.args.range.upper

pub returns-else-any-clause-rows : goal.returns-else-any-clause-rows
returns-else-any-clause-rows g c =
    let notes = c.args.notes.now in
    let t = c.args.own.transaction in
    let at = c.args.own.ground in
    let none : list_any (names t) notes ≡ false =
    sym (any_from_yields_List (names t) _ _ c.any.result c.any.ensures.ran (YieldsList-from_slice notes (search rules)) (search rules)) ∙ c.if-any.false in
    rows_silent (relation_of notes t at) (none_named notes t at none) (lines_of c.args.rows.now.book) c.choose.result
