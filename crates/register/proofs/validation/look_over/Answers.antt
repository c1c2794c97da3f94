use Rattle.std.proofs.Common.{arith}
use Rattle.std.proofs.lemmas.Grind.{common_steps}
use Rattle.register.proofs.validation.look_over.Goals as goal

pub loop-row-preserved : goal.loop-row-preserved
loop-row-preserved c = record {
  few_before = grind (arith, common_steps);
  few_after = grind (arith, common_steps);
  lower = grind (arith, common_steps);
  upper = grind (arith, common_steps);
  before = grind (arith, common_steps);
  after = grind (arith, common_steps);
}
