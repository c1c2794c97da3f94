-- The days that lead to a register in memory, and what is promised of them.
--   LeadsTo cells chosen first rooms h r        the history h leads from a new register over the cells first to the register r
--   KeepsPromise cells chosen first rooms h r   all that is promised of it, told by the cells that the store of r has
use Rattle.store.specs.Stores.{Cells}
use Rattle.protocol.specs.Model.{Chooses, Rooms}
use Rattle.serial.specs.Days.{IsDay}
use Rattle.serial.specs.Ledger.{History}
use Rattle.serial.specs.Promise.{Promised}
use Rattle.register.specs.Registers.{model}
use Rattle.register.specs.declared.register.Register.{Register}

-- Under the policy that the register has.
abbrev pub LeadsTo : {S P : Type 0} → (S → Cells) → (P → Chooses) → Cells → Rooms → History → Register S P → Type 0
LeadsTo cells chosen first rooms h r = IsDay (chosen r.policy) first rooms h (model cells r)

-- Committed transactions are serial, one alone commits, and a validation depends on its ground alone.
abbrev pub KeepsPromise : {S P : Type 0} → (S → Cells) → (P → Chooses) → Cells → Rooms → History → Register S P → Type 0
KeepsPromise cells chosen first rooms h r = Promised (chosen r.policy) first rooms h (model cells r)
