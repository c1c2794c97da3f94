use Rattle.std.proofs.Common.{◌≡◌, ℕ, ◌+◌, ◌<◌, ◌≤◌, List, [], ◌++◌, drop, length, get_or, refl, sym, ap, ◌∙◌, subst, add-one, drop-cons}
use Rattle.std.proofs.lemmas.List.{drop_all}
use Rattle.std.specs.Io.KnownBytes.{Appends}
use Rattle.service.specs.Streams.{answer_line, answer_text}
use Rattle.service.proofs.Writing.{appends_nothing, appends_then}
use Rattle.service.proofs.streaming.write_answers.Goals as goal

-- The line of the next word, and those of the words after it.
next_line : (ws : List ℕ) (i w : ℕ) → i < length ws → w ≡ get_or ws i 0
    → answer_text (drop i ws) ≡ answer_line w ++ answer_text (drop (i + 1) ws)
next_line ws i w below is =
    ap answer_text (drop-cons ws i 0 below) ∙ (rw (is, add-one) refl)

-- No words are left.
none_left : (ws : List ℕ) (i : ℕ) → length ws ≤ i → answer_text (drop i ws) ≡ []
none_left ws i past = ap answer_text (drop_all i ws past)

pub loop-word-preserved : goal.loop-word-preserved
loop-word-preserved g c e s =
    let ws = c.args.words.now in
    let i = c.loop-word.word-index in
    let line = next_line ws i _ c.loop-word-test.true refl in
    c.loop-word.invariant e
    (subst (Appends (g.W.Write.contents c.loop-word.output) e) (sym line)
    (appends_then _ _ e _ _ (subst (Appends (g.W.Write.contents c.loop-word.output) _) c.answer_line.ensures c.in_ok-write_all.ensures.bytes) s))

pub returns : goal.returns
returns g c =
    c.loop-word.invariant _
    (subst (Appends (g.W.Write.contents c.loop-word.output) _) (sym (none_left c.args.words.now c.loop-word.word-index c.loop-word-test.false))
    (appends_nothing _))
