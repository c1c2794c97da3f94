use Rattle.std.proofs.Common.{arith}
use Rattle.register.proofs.Sound.{no_lines_sound}
use Rattle.register.proofs.register.Register.new.Goals as goal

pub invariant_of-result : goal.invariant_of-result
invariant_of-result g c =
    record {
      sound = ∣ no_lines_sound _ _ _ c.new.ensures.empty c.new-3.ensures.empty c.new-4.ensures.empty ∣₁;
      limits = (rw c.new-3.ensures.room (omega arith), rw c.new-4.ensures.room (omega arith));
    }
