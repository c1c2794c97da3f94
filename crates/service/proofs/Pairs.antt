-- The pairs of a prewrite, one after another.
--   pair_stood, pair_refused, pair_missing   what one more pair comes to
use Rattle.std.proofs.Common.{◌≡◌, ℕ, suc, ◌+◌, List, ◌∷◌, ℤ, Some, None, Ok, Err, Option, sym, refl, ap, subst}
use Rattle.std.specs.List.{cons_option}
use Rattle.wire.specs.Messages.{pair_at}
use Rattle.base.specs.declared.refusal.Refusal.{Refusal}
use Rattle.protocol.specs.declared.call.Call.{Call}
use Rattle.protocol.specs.declared.call.Call.TheVariants as call
use Rattle.protocol.specs.declared.call.Reply.{Reply}
use Rattle.serial.specs.Ledger.{History}
use Rattle.service.specs.Answered.{Answer, ArePrewrites, one_more, pairs_from}

module _ (t : ℕ) (ws : List ℕ) (i n left : ℕ) (k : History) where
  -- What comes of the pairs from this one on.
  abbrev From : Option (ℕ × ℤ) → History → Answer → Type 0
  From o g a = ArePrewrites t (cons_option o (pairs_from ws (i + 1) left)) n k g a

  -- What comes of those after it.
  abbrev Later : History → History → Answer → Type 0
  Later j g a = ArePrewrites t (pairs_from ws (i + 1) left) (one_more n) j g a

  pub pair_stood : (p : ℕ × ℤ) (c : Call) (x : Reply) (g : History) (a : Answer) → pair_at ws i ≡ Some p → c ≡ call.Prewrite t p.0 p.1
      → Later ((c, Ok x) ∷ k) g a → ArePrewrites t (pairs_from ws i (suc left)) n k g a
  pair_stood p c x g a e s q =
      let here : Later ((call.Prewrite t p.0 p.1, Ok x) ∷ k) g a = subst (λ (d : Call). Later ((d, Ok x) ∷ k) g a) s q in
      subst (λ o. From o g a) (sym e) (Ok x, here)

  pub pair_refused : (p : ℕ × ℤ) (c : Call) (x : Refusal) → pair_at ws i ≡ Some p → c ≡ call.Prewrite t p.0 p.1
      → ArePrewrites t (pairs_from ws i (suc left)) n k ((c, Err x) ∷ k) (n, Err x)
  pair_refused p c x e s =
      let g : History = (c, Err x) ∷ k in
      let same : g ≡ (call.Prewrite t p.0 p.1, Err x) ∷ k = ap (λ (d : Call). (d, Err x) ∷ k) s in
      subst (λ o. From o g (n, Err x)) (sym e) (Err x, (same, refl))

  pub pair_missing : (g : History) (a : Answer) → pair_at ws i ≡ None → ArePrewrites t (pairs_from ws (i + 1) left) n k g a
      → ArePrewrites t (pairs_from ws i (suc left)) n k g a
  pair_missing g a e q = subst (λ o. From o g a) (sym e) q
