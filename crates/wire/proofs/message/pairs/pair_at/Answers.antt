use Rattle.std.proofs.Common.{◌≡◌, ◌<◌, ◌/◌, [], length, get_or, sym, ap, ◌∙◌, arith, rules}
use Rattle.std.proofs.lemmas.Bool.{cond-true, lt-ltb}
use Rattle.wire.proofs.Chunks.{chunk_pair, pair_in_chunk}
use Rattle.wire.proofs.message.pairs.pair_at.Goals as goal

pub returns : goal.returns
returns c =
    let ws = c.args.pairs.now in
    let i = c.args.i in
    let within : i < length ws / 2 = search rules in
    let chunk : c.in_ok-pair.pair.now ≡ get_or c.as_chunks.result.0.now i [] = search rules in
    let pair : c.pair_in.result ≡ chunk_pair c.in_ok-pair.pair.now = search rules in
    pair ∙ ap chunk_pair chunk ∙ ap (λ ps. chunk_pair (get_or ps i [])) c.as_chunks.ensures.front
    ∙ pair_in_chunk i (length ws / 2) ws within (omega arith) ∙ sym (cond-true _ _ _ (lt-ltb i _ within))
