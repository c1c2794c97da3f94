-- Two registers at one validation.
--   AgreeOn P Q m n t g     the registers m and n agree on the ground g, on the line of t, and in their policies P and Q
--   AnswerAlike r m n g     both answers are the same, and the registers m and n agree on the ground g
use Rattle.std.specs.Prelude.{◌≡◌, ℕ}
use Rattle.protocol.specs.Model.{Model, Chooses, transaction_of}
use Rattle.serial.specs.Agreement.{Agree, SamePolicy}

-- The same ground, the same line of the transaction or none in either, and equal answers of the policies.
pub record AgreeOn (P Q : Chooses) (m n : Model) (t g : ℕ) : Type 0 where
  pub ground : Agree g m n
  pub line : transaction_of m t ≡ transaction_of n t
  pub policy : SamePolicy P Q

-- The same answer twice, and agreement on the ground.
pub record AnswerAlike {A : Type 0} (answers : A × A) (m n : Model) (g : ℕ) : Type 0 where
  pub answer : answers.0 ≡ answers.1
  pub ground : Agree g m n
