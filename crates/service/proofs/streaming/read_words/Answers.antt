use Rattle.std.proofs.Common.{◌%◌, length, ap, ◌∙◌}
use Rattle.wire.specs.Bytes.{words_in}
use Rattle.service.proofs.Reading.{reads_front}
use Rattle.service.proofs.streaming.read_words.Goals as goal

pub returns : goal.returns
returns g c =
    let same = ap (λ b. g.R.Read.remaining b.now) c.take-start.ensures.inner in
    let front = reads_front (g.R.Read.remaining c.args.input.now) (g.R.Read.remaining c.take-start.result.inner.now) _ _ _ same
    c.take-start.ensures.limit c.new-bytes.ensures.items c.in_ok-read_to_end.ensures.bytes in (
      _,
      front,
      c.fill-left.ensures.words ∙ ap words_in c.deref.ensures.value,
      c.fill-left.ensures.left ∙ ap (λ bs. length bs % 4) c.deref.ensures.value,
    )
