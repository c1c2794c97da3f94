use Rattle.std.proofs.Common.{◌≡◌, true, get_or, length, refl, sym, ap, ◌∙◌, arith}
use Rattle.std.proofs.Math.Logic.{∥∥₁_map}
use Rattle.std.proofs.lemmas.Bool.Decides.{nat_tests}
use Rattle.register.specs.Slots.{empty_entry, place_of, has_room}
use Rattle.register.proofs.Entering.{at_place, nowhere}
use Rattle.register.proofs.Telling.{at_entries, same_relation}
use Rattle.register.proofs.slots.Relations.beside.Goals as goal

pub returns-in-Some : goal.returns-in-Some
returns-in-Some c =
    let self = c.args.self.now in
    let u = c.args.other.now.transaction in
    let place = c.in-Some.place in
    let searched = c.place_of.ensures ∙ ap (λ es. place_of es u) c.as_slice.ensures in
    ap (λ es. (get_or es place empty_entry).relation) c.as_slice-in-Some.ensures
    ∙ sym
    (same_relation
    (∥∥₁_map self.told
    (λ told. at_place self.entries u _ place (sym searched ∙ c.in-Some.is)
    (at_entries self.own self.slots self.entries self.notes.now told c.args.other.now c.requires.here _ refl c.requires.taken))))

pub returns-then-as_slice-lt-TRANSACTIONS : goal.returns-then-as_slice-lt-TRANSACTIONS
returns-then-as_slice-lt-TRANSACTIONS c =
    let self = c.args.self.now in
    let u = c.args.other.now.transaction in
    let searched = c.place_of.ensures ∙ ap (λ es. place_of es u) c.as_slice.ensures in
    let l = c.if-as_slice-lt-TRANSACTIONS.true in
    let e = ap length c.as_slice-in_default.ensures in
    let room : has_room self.entries ≡ true = grind (arith, nat_tests) in
    c.none.ensures
    ∙ sym
    (same_relation
    (∥∥₁_map self.told
    (λ told. nowhere self.entries u _ (sym searched ∙ c.in_default.is)
    (at_entries self.own self.slots self.entries self.notes.now told c.args.other.now c.requires.here _ refl c.requires.taken) room)))
