use Rattle.std.proofs.Common.{◌≡◌, ℕ, ◌%◌, List, ◌++◌, length, ap, ◌∙◌, subst}
use Rattle.std.specs.Io.KnownBytes.{Appends}
use Rattle.wire.specs.Bytes.{words_in}
use Rattle.serial.specs.Ledger.{History}
use Rattle.service.specs.Served.{Served}
use Rattle.service.specs.Streams.{answer_text, leftover_answer, Streamed}
use Rattle.service.proofs.Writing.{appends_then}
use Rattle.service.proofs.streaming.serve_stream.Goals as goal

-- The words that were served are those of what was read, and what was left over is.
streamed : (bs words : List ℕ) (left : ℕ) (h g : History) (answers : List ℕ) → words ≡ words_in bs → left ≡ length bs % 4
    → Served words h g answers → Streamed bs h g (answer_text answers ++ answer_text (leftover_answer left))
streamed bs words left h g answers is rest served = record {
  answers = answers;
  served = subst (λ ws. Served ws h g answers) is served;
  written = ap (λ n. answer_text answers ++ answer_text (leftover_answer n)) rest;
}

pub returns-clause-streamed : goal.returns-clause-streamed
returns-clause-streamed g c =
    let read = c.in_ok-words.ensures in (
      read.0,
      read.1,
      λ first rooms h day.
          let w = c.in_ok-serve.ensures.served first rooms h day in
          let answers = c.deref-2.ensures.value ∙ (w.3.2 ∙ ap (λ xs. xs ++ w.3.0) c.new-answers.ensures.items) in
          let first_part = subst (λ ws. Appends (g.W.Write.contents c.args.output.now) (g.W.Write.contents c.write_answers.new.output) (answer_text ws))
          answers c.in_ok-write_answers.ensures in (
            w.0,
            w.1,
            w.2,
            (
              answer_text w.3.0 ++ answer_text (leftover_answer c.in_ok-words.left),
              streamed read.0 _ _ h w.0 w.3.0 (c.deref.ensures.value ∙ read.2) read.3 w.3.1,
              appends_then (g.W.Write.contents c.args.output.now) (g.W.Write.contents c.write_answers.new.output) _ _ _ first_part
                  c.in_ok-write_leftover.ensures,
            ),
          ),
    )
