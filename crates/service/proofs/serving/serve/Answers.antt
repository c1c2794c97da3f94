use Rattle.std.proofs.Common.{rules, ◌≡◌, ℕ, List, [], ◌∷◌, ◌++◌, ◌<◌, ◌-◌, length, sym, refl, ap, ◌∙◌, subst, arith, append_assoc, append-nil, true, length-drop}
use Rattle.std.specs.Prelude.{◌==◌}
use Rattle.std.proofs.lemmas.Bool.Decides.{nat_tests}
use Rattle.service.specs.Served.{Served, nothing, message, words_of}
use Rattle.register.proofs.Kept.{keeps_then, none_keeps}
use Rattle.store.proofs.Putting.{puts_then}
use Rattle.store.specs.Stores.{none}
use Rattle.service.proofs.serving.serve.Goals as goal

-- Words of which there are none.
none_left : (ws : List ℕ) → (length ws == 0) ≡ true → [] ≡ ws
none_left [] e = refl
none_left (w ∷ ws) e = absurd (grind (arith, nat_tests))

pub messages-init : goal.messages-init
messages-init g c = record {
  room = search rules;
  keeps = none_keeps c.args.register.now;
  store = none c.args.register.now.store;
  made = λ first rooms h day. (h, day, λ e bs s. (bs, s, refl));
}

pub messages-preserved : goal.messages-preserved
messages-preserved g c =
    let rest = c.messages.rest.now in
    let a = c.answer_to_reading-answer.result in
    let some : 0 < length rest = search rules in
    let written = c.write_answer.ensures in
    let further = c.read-taken.ensures.advances some in
    let cut : length c.past-rest.result.now ≡ length rest - c.read-taken.result.1 = ap length c.past-rest.ensures ∙ length-drop c.read-taken.result.1 rest in
    record {
      room = let held = c.messages.invariant.room in omega arith;
      keeps = keeps_then _ _ _ c.messages.invariant.keeps c.answer_to_reading-answer.ensures.keeps;
      store = puts_then g.S.Store.beside _ _ _ c.messages.invariant.store c.answer_to_reading-answer.ensures.store;
      made = λ first rooms h day.
          let w = c.messages.invariant.made first rooms h day in
          let made = c.answer_to_reading-answer.ensures.made first rooms w.0 w.1 in (
            made.0,
            made.1,
            λ e bs s.
                let t = subst (λ ws. Served ws made.0 e bs) c.past-rest.ensures s in
                let v = w.2 e _ (message rest w.0 made.0 e _ _ a bs some c.read-taken.ensures.value made.2 t) in
                (v.0, v.1, v.2 ∙ (sym (append_assoc c.messages.out.items (words_of a) bs) ∙ ap (λ xs. xs ++ bs) (sym written.items))),
          );
    }

pub returns-clause-served : goal.returns-clause-served
returns-clause-served g c first rooms h day =
    let w = c.messages.invariant.made first rooms h day in
    let none : [] ≡ c.messages.rest.now = none_left c.messages.rest.now (sym c.is_empty.ensures ∙ c.messages-test.false) in
    let v = w.2 w.0 [] (subst (λ ws. Served ws w.0 w.0 []) none (nothing w.0)) in (
      w.0,
      w.1,
      c.promised.ensures first rooms w.0 w.1,
      (v.0, v.1, sym (v.2 ∙ append-nil c.messages.out.items) ∙ ap (λ xs. xs ++ v.0) c.in_ok-reserve.ensures.items),
    )
