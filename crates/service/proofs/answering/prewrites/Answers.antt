use Rattle.std.proofs.Common.{◌≡◌, ◌/◌, ◌+◌, ◌-◌, ℕ, suc, length, ◌∷◌, Ok, Err, sym, refl, ap, ◌∙◌, subst, arith, rules, w16, SFits}
use Rattle.std.proofs.lemmas.Int.{to_z-of_z}
use Rattle.protocol.specs.declared.call.Call.TheVariants as call
use Rattle.service.specs.Answered.{ArePrewrites, pairs_from}
use Rattle.service.proofs.Pairs.{pair_stood, pair_refused, pair_missing}
use Rattle.register.proofs.Kept.{keeps_then, none_keeps}
use Rattle.store.proofs.Putting.{puts_then}
use Rattle.store.specs.Stores.{none}
use Rattle.service.proofs.answering.prewrites.Goals as goal

pub loop-i-init : goal.loop-i-init
loop-i-init g c = record { keeps = none_keeps c.args.register.now; store = none c.args.register.now.store; made = search rules }

-- It is refused.
pub returns-in-Err-clause-keeps : goal.returns-in-Err-clause-keeps
returns-in-Err-clause-keeps g c = keeps_then _ _ _ c.loop-i.invariant.keeps c.in-Err.ensures.keeps

pub returns-in-Err-clause-store : goal.returns-in-Err-clause-store
returns-in-Err-clause-store g c = puts_then g.S.Store.beside _ _ _ c.loop-i.invariant.store c.in-Err.ensures.store

pub returns-in-Err-clause-made : goal.returns-in-Err-clause-made
returns-in-Err-clause-made g c first rooms h day =
    let t = c.args.transaction in
    let ws = c.args.pairs.now in
    let w = c.loop-i.invariant.made first rooms h day in
    let m : ℕ = length ws / 2 - (c.loop-i.i + 1) in
    let e : suc m + c.loop-i.i ≡ length ws / 2 = omega arith in
    let own = c.prewrite_of-call.result in
    let fits : SFits w16 c.in-Some.value = search rules in
    let is : own ≡ call.Prewrite t c.in-Some.key c.in-Some.value =
    c.prewrite_of-call.ensures ∙ ap (call.Prewrite t c.in-Some.key) (to_z-of_z w16 c.in-Some.value fits) in (
      (own, Err c.in-Err.refusal) ∷ w.0,
      c.in-Err.ensures.goes_on first rooms w.0 w.1,
      w.2 (suc m) e _ _
          (pair_refused t ws c.loop-i.i c.loop-i.stood m w.0 (c.in-Some.key, c.in-Some.value) own c.in-Err.refusal
          (sym c.pair_at.ensures ∙ c.in-Some.is) is),
    )

-- It stood.
pub loop-i-preserved : goal.loop-i-preserved
loop-i-preserved g c =
    let t = c.args.transaction in
    let ws = c.args.pairs.now in
    let own = c.prewrite_of-call.result in
    let fits : SFits w16 c.in-Some.value = search rules in
    let is : own ≡ call.Prewrite t c.in-Some.key c.in-Some.value =
    c.prewrite_of-call.ensures ∙ ap (call.Prewrite t c.in-Some.key) (to_z-of_z w16 c.in-Some.value fits) in
    let x = c.in_default-call.field-0 in
    record {
      keeps = keeps_then _ _ _ c.loop-i.invariant.keeps c.in_default-call.ensures.keeps;
      store = puts_then g.S.Store.beside _ _ _ c.loop-i.invariant.store c.in_default-call.ensures.store;
      made = λ first rooms h day.
          let w = c.loop-i.invariant.made first rooms h day in (
            (own, Ok x) ∷ w.0,
            c.in_default-call.ensures.goes_on first rooms w.0 w.1,
            λ left s e a q.
                w.2 (suc left) (omega arith) e a
                (pair_stood t ws c.loop-i.i c.loop-i.stood left w.0 (c.in-Some.key, c.in-Some.value) own x e a (sym c.pair_at.ensures ∙ c.in-Some.is) is
                (subst (λ n. ArePrewrites t (pairs_from ws (c.loop-i.i + 1) left) n ((own, Ok x) ∷ w.0) e a) c.saturating_add-stood.ensures q)),
          );
    }

-- No pair there.
pub loop-i-preserved-in_default : goal.loop-i-preserved-in_default
loop-i-preserved-in_default g c = record {
  keeps = c.loop-i.invariant.keeps;
  store = c.loop-i.invariant.store;
  made = λ first rooms h day.
      let w = c.loop-i.invariant.made first rooms h day in (
        w.0,
        w.1,
        λ left s e a q.
            w.2 (suc left) (omega arith) e a
            (pair_missing c.args.transaction c.args.pairs.now c.loop-i.i c.loop-i.stood left w.0 e a (sym c.pair_at.ensures ∙ c.in_default.is) q),
      );
}

-- All stood.
pub returns-clause-made : goal.returns-clause-made
returns-clause-made g c first rooms h day =
    let w = c.loop-i.invariant.made first rooms h day in
    (w.0, w.1, w.2 0 (omega arith) _ _ (refl, refl))
