use Rattle.std.proofs.Common.{◌≡◌, List, ℤ, Ok, IfOk, Option, sym, ap, ap₂, ◌∙◌, subst, arith, rules}
use Rattle.std.proofs.lemmas.Int.{ints}
use Rattle.book.specs.Books.{lines_of}
use Rattle.lines.specs.LineKeys.{row_key}
use Rattle.lines.specs.Rows.{moved_row}
use Rattle.lines.specs.declared.note.Note.{Note}
use Rattle.lines.specs.declared.row.Row.{Row}
use Rattle.lines.specs.declared.row.RowKey.{RowKey}
use Rattle.protocol.specs.Among.{note_floors, raised_above, lowered_below}
use Rattle.protocol.specs.Validation.{ceilings, row_moved}
use Rattle.protocol.proofs.Raising.{raised_least}
use Rattle.register.specs.Ranges.{line_floors}
use Rattle.register.specs.Registers.{model}
use Rattle.register.specs.Relations.{relation_of, choice_beside, rows_beside, event_of}
use Rattle.register.specs.Sound.{PlacedAt}
use Rattle.register.specs.declared.range.Range.{Range}
use Rattle.register.proofs.Pushing.{placed_beside}
use Rattle.register.proofs.Raising.{raised_floors}
use Rattle.register.proofs.Rows.{stays_on}
use Rattle.register.proofs.Registers.{same_lines, refuses}
use Rattle.register.proofs.Sound.{rows_sound}
use Rattle.register.proofs.Validating.{begun, meets_event, taken_same, validate_is, with_rows_is}
use Rattle.register.proofs.register.Register.validate.Goals as goal

pub returns-in_default-clause-refused : goal.returns-in_default-clause-refused
returns-in_default-clause-refused g c = same_lines _ _ _

pub returns-in_err-check_running-clause-refused : goal.returns-in_err-check_running-clause-refused
returns-in_err-check_running-clause-refused g c = refuses _ (same_lines _ _ _)

pub take-taken-requires : goal.take-taken-requires
take-taken-requires g c =
    let r = c.in-Some.row in
    let m = model g.S.Store.cells c.args.self.now in
    let limits = c.in-Some.ensures.2 in
    let least = raised_least r.lower (line_floors m c.args.transaction c.args.ground) in
    let is = c.left_by_lines-left.ensures in
    let low = ap (λ (x : Range). x.lower) is in
    let high = ap (λ (x : Range). x.upper) is in
    record { stamps = (rw low (omega (arith, ints)), rw high (omega (arith, ints))) }

pub move_row-requires-clause-placed : goal.move_row-requires-clause-placed
move_row-requires-clause-placed g c =
    let rows = lines_of c.args.self.now.rows.book in
    let found = c.in-Some.ensures in
    let place = c.in-Some.place in
    let own = row_key c.in-Some.row in
    subst (λ (rs : List Row). PlacedAt rs own place) (sym c.take-taken.ensures.rows)
    (placed_beside (relation_of c.lines.result.now c.args.transaction c.args.ground) c.take-taken.result rows own place
    (subst (λ (k : RowKey). PlacedAt rows k place) (sym found.3) found.0))

pub returns-clause-model : goal.returns-clause-model
returns-clause-model g c =
    let self = c.args.self.now in
    let m = model g.S.Store.cells self in
    let t = c.args.transaction in
    let at = c.args.ground in
    let r = c.in-Some.row in
    let P = g.P.Policy.chosen self.policy in
    let left = c.left_by_lines-left.result in
    let single = (rows_sound m.rows self.rows.sound).single in
    let o : Option (ℤ × ℤ) = c.take-taken.result in
    let found = c.in-Some.ensures in
    let run = sym c.check_running.ensures ∙ c.in_ok-check_running.was in
    let is = c.take-taken.ensures.taken
    ∙ (ap (λ (ns : List Note). choice_beside (relation_of ns t at) P left.lower left.upper m.rows) c.lines.ensures
    ∙ taken_same P m t at single left.lower left.upper) in
    let moved = subst
    (λ a. IfOk a (λ _. lines_of c.move_row.new.self.book ≡ row_moved r.transaction r.ground r c.event_of.result (lines_of c.take-taken.new.rows.book)))
    (c.move_row.ensures.answer ∙ (ap (λ e. (moved_row r e).1) c.event_of.ensures ∙ meets_event r c.in_ok-check_running.field-0 o run))
    c.move_row.ensures.lines in
    let lines = moved
    ∙ (ap (λ e. row_moved r.transaction r.ground r e (lines_of c.take-taken.new.rows.book)) c.event_of.ensures
    ∙ ap₂ (λ (k : RowKey) (rs : List Row). row_moved k.transaction k.ground r (event_of o) rs) found.3
    (c.take-taken.ensures.rows ∙ ap (λ (ns : List Note). rows_beside (relation_of ns t at) o m.rows) c.lines.ensures)) in
    let low = ap (λ (x : Range). raised_above x.lower (note_floors m.rows m.notes t at)) c.left_by_lines-left.ensures ∙ raised_floors m t at r.lower in
    let high = ap (λ (x : Range). lowered_below x.upper (ceilings m t at)) c.left_by_lines-left.ensures in
    ap (λ n. (n, Ok o)) (with_rows_is m _ _ _ lines (c.move_row.ensures.stays.room ∙ c.take-taken.ensures.stays.room))
    ∙ validate_is P m t at single r c.in_ok-check_running.field-0 (begun _ _ _ c.check_open.ensures.check c.in_ok-check_open.was) found.1 run
    _ _ low high o is

pub returns-clause-keeps : goal.returns-clause-keeps
returns-clause-keeps g c =
    let rows = stays_on _ _ _ c.take-taken.ensures.stays c.move_row.ensures.stays in
    search rules
