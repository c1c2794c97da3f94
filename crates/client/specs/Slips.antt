-- Settling the rest of a transaction.
--   settled_from p t g n   the register p.0 after t was settled at the n grounds from g on, and the count p.1 with each that was accepted
--   rest_settled m t       the register m after all eight grounds, and how many settlements were accepted
use Rattle.std.specs.Prelude.{ℕ, zero, suc, ◌+◌, Ok, Err, Result}
use Rattle.base.specs.declared.refusal.Refusal.{Refusal}
use Rattle.protocol.specs.Calls.{settle}
use Rattle.protocol.specs.Model.{Model}

-- A count with one more settlement, if that was accepted.
abbrev pub count_with : ℕ → Result Unit Refusal → ℕ
count_with n (Ok u) = n + 1
count_with n (Err e) = n

-- The register and the count after one settlement.
abbrev pub counted : ℕ → Model × Result Unit Refusal → Model × ℕ
counted n p = (p.0, count_with n p.1)

-- Settling at one ground after the other. A ground where the transaction has no row that is Running or Validated refuses, and counts for
-- nothing; so does every ground where the transaction is not decided.
abbrev pub settled_from : Model × ℕ → ℕ → ℕ → ℕ → Model × ℕ
settled_from p t g zero = p
settled_from p t g (suc n) = settled_from (counted p.1 (settle p.0 t g)) t (g + 1) n

-- Settling the rest: at the eight grounds, rising.
abbrev pub rest_settled : Model → ℕ → Model × ℕ
rest_settled m t = settled_from (m, 0) t 0 8
