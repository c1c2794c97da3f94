-- A stamp comes back from its word.
use Rattle.std.proofs.Common.{◌≡◌, ◌<◌, ◌^◌, Ok, sym, ap, ◌∙◌, arith}
use Rattle.std.proofs.lemmas.Nat.{div-mul-add, mod-mul-add}
use Rattle.std.proofs.lemmas.Bool.{cond-true, eq-eqb}
use Rattle.base.specs.declared.kind.Kind.{Kind}
use Rattle.base.specs.declared.stamp.Stamp.{Stamp}
use Rattle.base.specs.Kinds.{kind_number}
use Rattle.base.specs.Words.{stamp_word}
use Rattle.base.proofs.Stamps.{stamp_is}
use Rattle.wire.specs.Words.{stamp_in}

-- A stamp's word is read as that stamp.
pub stamp_back : (k : Kind) (a : Stamp) → stamp_in k (stamp_word k a) ≡ Ok a
stamp_back k a =
    let h : a.number < 2 ^ 28 = let w = a.within in omega arith in
    cond-true _ _ _ (eq-eqb _ _ (div-mul-add (kind_number k) (2 ^ 28) a.number h))
    ∙ ap Ok (sym (stamp_is _ a (sym (mod-mul-add (kind_number k) (2 ^ 28) a.number h))))
