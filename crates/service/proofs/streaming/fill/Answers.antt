use Rattle.std.proofs.Common.{◌≡◌, ◌/◌, length, sym, ap, ◌∙◌, rules}
use Rattle.service.proofs.Reading.{words_count, words_filled, written_over}
use Rattle.service.proofs.streaming.fill.Goals as goal

pub returns-clause-words : goal.returns-clause-words
returns-clause-words c =
    let bs = c.args.bytes.now in
    let room : length c.as_mut_slice.result.now ≡ length bs / 4 = search rules in
    let filled = words_filled bs c.as_mut_slice.result.now _ room c.fill_words.ensures.words in
    written_over _ c.fill_words.new.words _ (c.requires ∙ (sym (words_count bs) ∙ sym (ap length filled))) ∙ filled
