-- A sparse store image.
--   image_fault ws n   the first fault of an image of the words ws with n bytes left over
use Rattle.std.specs.Prelude.{ℕ, cond, List, Some, Option, nat_lt}
use Rattle.image.specs.declared.fault.Cause.TheVariants.{PartLine}
use Rattle.image.specs.declared.fault.Fault.{Fault}
use Rattle.image.specs.Faults.{whole_fault}
use Rattle.image.specs.Sparses.{sparse_fault}

-- Bytes that are left over are part of a line; else the fault is that of the words.
abbrev pub image_fault : List ℕ → ℕ → Option Fault
image_fault ws n = cond (nat_lt 0 n) (Some (whole_fault PartLine)) (sparse_fault ws)
