use Rattle.std.proofs.Common.{refl}
use Rattle.base.specs.declared.refusal.Refusal.TheVariants.{
  BadNumber,
  NoRoom,
  NeverBegun,
  AlreadyDecided,
  NotRunning,
  NoRow,
  ReadAfterPrewrite,
  StillRunning,
  NotDecided,
  AlreadySettled,
  NoSuchKey,
  Malformed,
  BadStore,
}
use Rattle.base.proofs.refusal.numbers_name_refusals.Goals as goal

pub returns : goal.returns
returns c = elim [
  | BadNumber ↦ refl
  | NoRoom ↦ refl
  | NeverBegun ↦ refl
  | AlreadyDecided ↦ refl
  | NotRunning ↦ refl
  | NoRow ↦ refl
  | ReadAfterPrewrite ↦ refl
  | StillRunning ↦ refl
  | NotDecided ↦ refl
  | AlreadySettled ↦ refl
  | NoSuchKey ↦ refl
  | Malformed ↦ refl
  | BadStore ↦ refl
]
