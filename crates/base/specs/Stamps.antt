-- A stamp is a number from 0 to TOP = 268,435,455; a bound is a signed number from -1 to TOP + 1.
--   stamp n            the stamp n, and TOP for any larger number
--   stamp_at n         the stamp n, or nothing for a number above TOP
--   stamp_of_bound z   the stamp that the bound z is, or nothing for one outside 0 to TOP
--   nearest_stamp z    the stamp nearest to the bound z
use Rattle.std.specs.Prelude.{ℕ, min, cond, ℤ, pos, negsuc, Some, None, Option, nat_le}
use Rattle.std.proofs.Math.Nat.{min-le_right}
use Rattle.base.specs.declared.stamp.Stamp.{Stamp}
use Rattle.base.specs.declared.stamp.TheConstants.{TOP}

-- The stamp n; its type asks that no stamp lies above TOP, so a larger number is taken down to it.
abbrev pub stamp : ℕ → Stamp
stamp n = record { number = min n TOP; within = min-le_right n TOP }

-- The stamp n where there is one.
abbrev pub stamp_at : ℕ → Option Stamp
stamp_at n = cond (nat_le n TOP) (Some (stamp n)) None

-- The stamp that a signed bound is: none below 0 and none above TOP.
abbrev pub stamp_of_bound : ℤ → Option Stamp
stamp_of_bound (pos n) = stamp_at n
stamp_of_bound (negsuc n) = None

-- The stamp nearest to a bound: 0 for one below 0, TOP for one above TOP.
abbrev pub nearest_stamp : ℤ → Stamp
nearest_stamp (pos n) = stamp n
nearest_stamp (negsuc n) = stamp 0
