-- The keys of the grounds 0 to 7 have sixteen bits.
--   HasShortKeys   so have those of a register's write lines there
--   short_keys     they have
use Rattle.std.proofs.Common.{◌≡◌, ℕ, ◌<◌, ◌^◌, eqb, arith}
use Rattle.std.proofs.lemmas.Bool.{eqb-true}
use Rattle.std.specs.List.{AllByRecursion}
use Rattle.base.specs.Keys.{ground_of}
use Rattle.protocol.specs.Model.{Model}
use Rattle.serial.specs.Agreement.{writes_at}
use Rattle.serial.proofs.Lines.All.{all_each, kept_all}

-- The keys of the ground's write lines have sixteen bits.
abbrev pub HasShortKeys : ℕ → Model → Type 0
HasShortKeys g m = AllByRecursion (λ x. x.key < 2 ^ 16) (writes_at g m.writes)

-- A key of such a ground has sixteen bits.
short_key : (k g : ℕ) → g < 8 → ground_of k ≡ g → k < 65536
short_key k g low e = omega arith

pub short_keys : (g : ℕ) (m : Model) → g < 8 → HasShortKeys g m
short_keys g m low =
    kept_all (λ x. eqb (ground_of x.key) g) (λ x. Unit {0}) _ (λ x e _. short_key x.key g low (eqb-true _ _ e)) m.writes
    (all_each (λ x. Unit {0}) m.writes (λ x i. tt))
