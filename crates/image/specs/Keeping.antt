-- What a put leaves of the memory that a store was lent.
--   Keeps name fault s r t   between the store s, the answer r and the store t: the same memory, good if it was, untouched if refused
use Rattle.std.specs.Prelude.{◌≡◌, ℕ, None, OnErr, Option, Result}
use Rattle.base.specs.declared.refusal.Refusal.{Refusal}
use Rattle.image.specs.declared.fault.Fault.{Fault}

-- Where a store lies in the memory of the name that it has, in which there may be a fault.
pub record Keeps {S : Type 0} (name : S → ℕ) (fault : S → Option Fault) (s : S) (r : Result Unit Refusal) (t : S) : Type 0 where
  pub lent : name t ≡ name s
  pub sound : fault s ≡ None → fault t ≡ None
  pub refused : OnErr r (t ≡ s)
