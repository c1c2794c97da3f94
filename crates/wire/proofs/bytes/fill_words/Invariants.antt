use Rattle.wire.proofs.Filling.{FilledTo}
use Rattle.wire.specs.Bytes.{words_in}
use Rattle.wire.proofs.bytes.fill_words.Given as goal

abbrev pub invariant-loop-i : goal.invariant-loop-i
invariant-loop-i l = FilledTo l.i (words_in l.bytes) l.initial.words l.words
