-- What follows where two different constructors are said to be the same: anything. `cc` finds that 0 is then 1.
use Rattle.std.proofs.Common.{◌≡◌, ℕ, arith}

pub clash : {A : Type 0} → ◌≡◌ {A = ℕ} 0 1 → A
clash e = absurd (omega arith)
