use Rattle.std.proofs.Common.{rules, sym, ap, ◌∙◌}
use Rattle.std.proofs.lemmas.List.Sorted.{answers_always}
use Rattle.image.specs.Lines.{key_of}
use Rattle.image.specs.Sparses.{sparse_line}
use Rattle.image.proofs.SparsePut.{search_finds}
use Rattle.image.proofs.sparse.Sparse.line.Goals as goal

-- The closure gives a line's key.
pub returns-clause-value : goal.returns-clause-value
returns-clause-value c =
    let s = c.args.self.now in
    let facts = c.binary_search_by_key.ensures in
    let by_key = facts.position key_of (answers_always _ _ _ (λ f a r g called. search rules)) in
    let good = sym c.if-not-self.false in
    c.ok.ensures.value
    ∙ (search_finds s.words.now c.args.key c.as_chunks.result.0.now (good ∙ s.good_is) c.as_chunks.ensures.front _ facts.bound by_key
    ∙ ap (λ b. sparse_line b s.words.now c.args.key) good)
