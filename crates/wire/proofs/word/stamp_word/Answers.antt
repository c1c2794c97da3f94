use Rattle.std.proofs.Common.{◌≡◌, ap, ◌∙◌}
use Rattle.base.specs.Words.{stamp_word}
use Rattle.wire.specs.Words.{stamp_in, stamp_kind}
use Rattle.wire.proofs.Words.{stamp_back}
use Rattle.wire.proofs.word.stamp_word.Goals as goal

pub returns-clause-back : goal.returns-clause-back
returns-clause-back c =
    let k = stamp_kind c.args.kind in
    let e : c.word_of.result ≡ stamp_word k c.args.stamp = cc in
    ap (stamp_in k) e ∙ stamp_back k c.args.stamp
