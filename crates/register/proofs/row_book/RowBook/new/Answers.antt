use Rattle.std.proofs.Common.{◌≤◌, sym, subst, arith}
use Rattle.register.specs.Sound.{SoundRows}
use Rattle.register.proofs.Sound.{no_rows_sound}
use Rattle.register.proofs.row_book.RowBook.new.Goals as goal

pub invariant_of-result : goal.invariant_of-result
invariant_of-result c = record {
  few = subst (λ n. n ≤ 256) (sym c.new.ensures.room) (omega arith);
  sound = ∣ subst SoundRows (sym c.new.ensures.empty) no_rows_sound ∣₁;
}
