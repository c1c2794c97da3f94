use Rattle.std.proofs.Common.{◌≡◌, ◌<◌, ◌/◌, ℕ, List, [], length, get_or, sym, ap, ◌∙◌, w32, arith}
use Rattle.std.specs.Int.{from_le_bytes}
use Rattle.std.specs.Simd.{first_chunks}
use Rattle.std.proofs.lemmas.List.{get_or-map, length-map}
use Rattle.wire.specs.Bytes.{words_in}
use Rattle.wire.proofs.Filling.{filled_none, filled_more, filled_all, filled_whole}
use Rattle.wire.proofs.bytes.fill_words.Goals as goal

pub loop-i-init : goal.loop-i-init
loop-i-init c = filled_none (words_in c.args.bytes.now) c.args.words.now

pub loop-i-preserved : goal.loop-i-preserved
loop-i-preserved c =
    let bs = c.args.bytes.now in
    let groups = first_chunks 4 (length bs / 4) bs in
    let i = c.loop-i.i in
    let count : length groups ≡ length bs / 4 = sym (ap length c.as_chunks.ensures.front) ∙ c.as_chunks.ensures.front_len in
    let within : i < length groups = omega arith in
    let word = get_or-map (from_le_bytes w32) groups i [] 0 within in
    filled_more (words_in bs) c.args.words.now i c.loop-i.words _ (omega (arith, length-map groups (from_le_bytes w32))) (omega arith)
    (word ∙ sym (c.from_le_bytes.ensures ∙ ap (λ (gs : List (List ℕ)). from_le_bytes w32 (get_or gs i [])) c.as_chunks.ensures.front)) c.loop-i.invariant

-- There are as many words as whole groups of bytes.
counted : (bs : List ℕ) (gs : List (List ℕ)) → gs ≡ first_chunks 4 (length bs / 4) bs → length gs ≡ length bs / 4
    → length (words_in bs) ≡ length bs / 4
counted bs gs e n = length-map (first_chunks 4 (length bs / 4) bs) (from_le_bytes w32) ∙ (sym (ap length e) ∙ n)

pub returns-clause-words : goal.returns-clause-words
returns-clause-words c =
    let bs = c.args.bytes.now in
    let count = counted bs c.as_chunks.result.0.now c.as_chunks.ensures.front c.as_chunks.ensures.front_len in
    filled_all (words_in bs) c.args.words.now c.loop-i.i c.loop-i.words (omega arith) c.loop-i.auto.words c.loop-i.invariant

pub returns-clause-all : goal.returns-clause-all
returns-clause-all c same =
    let bs = c.args.bytes.now in
    let count = counted bs c.as_chunks.result.0.now c.as_chunks.ensures.front c.as_chunks.ensures.front_len in
    returns-clause-words c ∙ filled_whole (words_in bs) c.args.words.now (omega arith)
