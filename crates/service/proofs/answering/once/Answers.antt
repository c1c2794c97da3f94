use Rattle.std.proofs.Common.{◌∷◌, refl}
use Rattle.service.proofs.answering.once.Goals as goal

pub returns-clause-made : goal.returns-clause-made
returns-clause-made g c first rooms h day = (
  (c.args.call, c.call.result) ∷ h,
  c.call.ensures.goes_on first rooms h day,
  record { response = c.call.result; history = refl; answer = refl },
)
