use Rattle.std.proofs.Common.{ℕ, List, Option, drop}
use Rattle.std.specs.Io.KnownBytes.{Appends}
use Rattle.service.specs.Streams.{answer_text}
use Rattle.service.proofs.streaming.write_answers.Given as goal

-- With the lines of the words that are left, the writer will have those of all.
abbrev pub invariant-loop-word : goal.invariant-loop-word
invariant-loop-word g l =
    (e : Option (List ℕ)) → Appends (g.W.Write.contents l.output) e (answer_text (drop l.word-index l.words))
    → Appends (g.W.Write.contents l.initial.output) e (answer_text l.words)
