use Rattle.std.proofs.Common.{◌≡◌, ◌%◌, ◌<◌, length, sym, ap, ◌∙◌, rules, tests}
use Rattle.std.specs.List.{list_all}
use Rattle.std.proofs.lemmas.Iterator.{YieldsList-from_slice}
use Rattle.std.proofs.lemmas.Iterator.Search.{all_from_yields_List}
use Rattle.wire.proofs.Chunks.{pair_good, even_pairs, odd_pairs}
use Rattle.wire.proofs.message.pairs.are_pairs.Goals as goal

pub returns-then-is_empty : goal.returns-then-is_empty
returns-then-is_empty c =
    let ws = c.args.words.now in
    let even : length ws % 2 ≡ 0 = search rules in
    let each : c.all.result ≡ list_all pair_good c.as_chunks.result.0.now =
    all_from_yields_List pair_good _ _ c.all.result c.all.ensures.ran
    (YieldsList-from_slice c.as_chunks.result.0.now cc)
    (λ x b q k. search (rules, tests)) in
    each ∙ ap (list_all pair_good) c.as_chunks.ensures.front ∙ even_pairs ws even

pub returns-else-is_empty : goal.returns-else-is_empty
returns-else-is_empty c =
    let ws = c.args.words.now in
    let odd : 0 < length ws % 2 = search rules in
    c.if-is_empty.false ∙ sym (odd_pairs ws odd)
