-- Two validations that their definitions answer alike.
--   both_alike    what the registers answered and left is alike too
use Rattle.std.proofs.Common.{◌≡◌, ℕ, ℤ, Option, Result, sym, subst}
use Rattle.base.specs.declared.refusal.Refusal.{Refusal}
use Rattle.protocol.specs.Calls.{validate}
use Rattle.protocol.specs.Model.{Model, Chooses}
use Rattle.serial.specs.Agreement.{Alike}
use Rattle.register.specs.Agreements.{AnswerAlike}

-- A register after a validation, and the answer.
abbrev Outcome : Type 0
Outcome = Model × Result (Option (ℤ × ℤ)) Refusal

pub both_alike : (P Q : Chooses) (m n : Model) (t g : ℕ) (x y : Outcome) → x ≡ validate P m t g → y ≡ validate Q n t g → Alike P Q m n t g
    → AnswerAlike (x.1, y.1) x.0 y.0 g
both_alike P Q m n t g x y here there alike =
    subst (λ (o : Outcome). AnswerAlike (o.1, y.1) o.0 y.0 g) (sym here)
    (subst (λ (o : Outcome). AnswerAlike ((validate P m t g).1, o.1) (validate P m t g).0 o.0 g) (sym there)
    (record { answer = alike.answer; ground = alike.agree }))
