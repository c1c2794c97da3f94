use Rattle.std.proofs.Common.{Some, sym, refl, ap, ◌∙◌}
use Rattle.std.proofs.lemmas.Bool.{cond-true, le-leb}
use Rattle.base.proofs.Stamps.{stamp_is}
use Rattle.base.proofs.stamp.Stamp.new.Goals as goal

pub returns-then-number-le-TOP : goal.returns-then-number-le-TOP
returns-then-number-le-TOP c =
    ap Some (stamp_is _ _ refl) ∙ sym (cond-true _ _ _ (le-leb _ _ c.if-number-le-TOP.true))
