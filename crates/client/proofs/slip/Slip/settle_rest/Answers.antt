use Rattle.std.proofs.Common.{◌≡◌, ℕ, suc, ◌+◌, ◌-◌, ◌<◌, ◌≤◌, true, false, is_ok, Ok, Err, Result, sym, refl, ap, ◌∙◌, arith}
use Rattle.base.specs.declared.refusal.Refusal.{Refusal}
use Rattle.protocol.specs.Calls.{settle}
use Rattle.protocol.specs.Model.{Model}
use Rattle.register.specs.Registers.{model}
use Rattle.client.specs.Slips.{counted, count_with, settled_from}
use Rattle.store.proofs.Putting.{puts_then}
use Rattle.store.specs.Stores.{none}
use Rattle.register.proofs.Kept.{keeps_then, none_keeps, none_rest, rest_then}
use Rattle.client.proofs.slip.Slip.settle_rest.Goals as goal
use Rattle.client.proofs.slip.Slip.settle_rest.Goals.{then-is_ok, else-is_ok}

-- An accepted settlement counts, a refused one does not.
counts : (n : ℕ) (r : Result Unit Refusal) → is_ok r ≡ true → n + 1 ≡ count_with n r
counts n (Ok u) e = refl
counts n (Err x) e = cc

passes_by : (n : ℕ) (r : Result Unit Refusal) → is_ok r ≡ false → n ≡ count_with n r
passes_by n (Ok u) e = cc
passes_by n (Err x) e = refl

-- The settlement at the next ground goes into the rest.
one_ground : (m n : Model) (t g k j : ℕ) (r : Result Unit Refusal) → (n, r) ≡ settle m t g → j ≡ count_with k r → g < 8
    → settled_from (n, j) t (g + 1) (8 - (g + 1)) ≡ settled_from (m, k) t g (8 - g)
one_ground m n t g k j r made count below =
    let left : 8 - g ≡ suc (8 - (g + 1)) = omega arith in
    rw left
    (ap (λ (i : ℕ). settled_from (n, i) t (g + 1) (8 - (g + 1))) count
    ∙ ap (λ (p : Model × Result Unit Refusal). settled_from (counted k p) t (g + 1) (8 - (g + 1))) made)

pub loop-ground-init : goal.loop-ground-init
loop-ground-init g c =
    let register = c.args.register.now in
    record {
      few = omega arith;
      left = refl;
      keeps = none_keeps register;
      rest = none_rest register;
      store = none register.store;
    }

pub loop-ground-preserved : goal.loop-ground-preserved
loop-ground-preserved g c =
    let k = c.loop-ground.settled in
    let r = c.settle.result in
    let few : c.if-is_ok.settled ≤ c.loop-ground.ground + 1 =
    elim c.if-is_ok.branch [ then-is_ok w ↦ omega arith | else-is_ok w ↦ omega arith ] in
    let count : c.if-is_ok.settled ≡ count_with k r =
    elim c.if-is_ok.branch [
      | then-is_ok w ↦ w.settled-is ∙ counts k r (sym c.is_ok.ensures.value ∙ w.if-is_ok.true)
      | else-is_ok w ↦ w.settled-is ∙ passes_by k r (sym c.is_ok.ensures.value ∙ w.if-is_ok.false)
    ] in
    record {
      few = few;
      left =
          one_ground (model g.S.Store.cells c.loop-ground.register) _ c.args.self.number c.loop-ground.ground k _ r c.settle.ensures.model count
          c.loop-ground-test.true
          ∙ c.loop-ground.invariant.left;
      keeps = keeps_then _ _ _ c.loop-ground.invariant.keeps c.settle.ensures.keeps;
      rest = rest_then _ _ _ c.loop-ground.invariant.rest c.settle.ensures.rest;
      store = puts_then g.S.Store.beside _ _ _ c.loop-ground.invariant.store c.settle.ensures.store;
    }
