use Rattle.std.proofs.Common.{◌≡◌, ◌<◌, ◌≤◌, length, get_or, set, Some, sym, ap, ◌∙◌, subst, arith}
use Rattle.std.proofs.lemmas.List.{length-set}
use Rattle.std.proofs.lemmas.Option.{slice_get-get_or}
use Rattle.book.specs.Books.{Stays, lines_of}
use Rattle.lines.specs.LineKeys.{row_key}
use Rattle.lines.specs.Rows.{IsBounded}
use Rattle.protocol.specs.Among.{pushed_by}
use Rattle.register.specs.Relations.{lists_by, pushed_beside}
use Rattle.register.specs.Sound.{SoundRows}
use Rattle.register.specs.Lookups.{relation_in}
use Rattle.register.specs.declared.relation.Lists.{Lists}
use Rattle.register.specs.declared.row_book.RowBook.{RowBook}
use Rattle.register.proofs.Places.{held_set}
use Rattle.register.proofs.Pushing.{push_more, push_all, pushed_bounded}
use Rattle.register.proofs.Rows.{nth_holds, no_row, stays_on}
use Rattle.register.proofs.Sound.{rows_sound, row_set}
use Rattle.register.proofs.row_book.RowBook.make_way.Goals as goal
use Rattle.register.proofs.row_book.RowBook.make_way.Goals.{in-Some, in_default}

-- A row that makes way keeps its key and its limits.
pub invariant_of-self : goal.invariant_of-self
invariant_of-self c =
    let self = c.loop-place.self in
    let rows = lines_of self.book in
    let i = c.loop-place.place in
    let within : i < length rows = omega (arith, c.loop-place.invariant.long) in
    let row = c.in-Some.row in
    let lists = c.lists-lists.result in
    let range = c.args.taken in
    let read = sym c.in-Some.ensures in
    let same : Some row ≡ Some (get_or rows i row) = sym read ∙ slice_get-get_or rows i row within in
    let found : row ≡ get_or rows i row = cc in
    let sound = rows_sound rows self.sound in
    let pushed = pushed_by lists.before lists.after range row in
    let written : lines_of c.set.new.self ≡ set rows i pushed =
    held_set i _ self.book _ c.set.result c.set.ensures.cases within ∙ ap (set rows i) c.push.ensures in
    let bounded = pushed_bounded lists.before lists.after range.0 range.1 row c.requires.limits.least c.requires.limits.most
    (nth_holds IsBounded rows i row read within sound.bounded) in
    record {
      few = subst (λ n. n ≤ 256) (sym c.set.ensures.stays.room) self.few;
      sound = ∣ subst SoundRows (sym written) (row_set rows i pushed row (ap row_key found) bounded sound) ∣₁;
    }

pub loop-place-preserved : goal.loop-place-preserved
loop-place-preserved c =
    let old = lines_of c.args.self.now.book in
    let rows = lines_of c.loop-place.self.book in
    let i = c.loop-place.place in
    let count = c.len-place-end.ensures.value in
    let long = c.loop-place.invariant.long in
    let within : i < length rows = omega arith in
    let range = c.args.taken in
    let way = pushed_beside (relation_in c.args.relations.now) range in
    elim c.match-get.branch [
      | in-Some w ↦
          let x = w.in-Some.row in
          let book : c.match-get.self.book ≡ w.set.new.self = ap (λ (b : RowBook). b.book) w.self-is in
          let pushed : w.push.result ≡ way x =
          w.push.ensures ∙ ap (λ (l : Lists). pushed_by l.before l.after range x) (w.lists-lists.ensures ∙ ap (λ q. lists_by q x) w.to.ensures) in
          let written : lines_of c.match-get.self.book ≡ set rows i (way x) =
          ap lines_of book
          ∙ (held_set i _ c.loop-place.self.book _ w.set.result w.set.ensures.cases within ∙ ap (set rows i) pushed) in
          record {
            lines = written ∙ push_more way old rows i x (omega arith) within c.loop-place.invariant.lines (sym w.in-Some.ensures);
            stays =
                subst (Stays c.args.self.now.book) (sym book) (stays_on _ _ _ c.loop-place.invariant.stays w.set.ensures.stays);
            long = ap length written ∙ (length-set rows i (way x) ∙ long);
          }
      | in_default w ↦ absurd (w.in_default.not-Some (get_or rows i no_row) (c.get.ensures ∙ slice_get-get_or rows i no_row within))
    ]

pub returns-clause-lines : goal.returns-clause-lines
returns-clause-lines c =
    let count = c.len-place-end.ensures.value in
    c.loop-place.invariant.lines
    ∙ push_all (pushed_beside (relation_in c.args.relations.now) c.args.taken) (lines_of c.args.self.now.book) c.loop-place.place (omega arith)
