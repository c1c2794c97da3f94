use Rattle.std.proofs.Common.{◌%◌, List, ℕ, length, ap, ◌∙◌, rules}
use Rattle.wire.specs.Bytes.{words_in}
use Rattle.survey.proofs.Streams.{all_told}
use Rattle.survey.proofs.printing.run.Goals as goal

pub returns : goal.returns
returns g c =
    all_told g.W.Write.contents g.E.Write.contents c.args.out.now c.print_image.new.out c.args.errors.now c.print_image.new.errors
    (g.R.Read.remaining c.args.input.now) c.read_to_end.new.buf.items c.deref_mut.result.now c.in-Ok.left c.print_image.result
    (search rules)
    (c.deref_mut.ensures.value ∙ (c.in-Ok.ensures.words ∙ ap words_in c.deref.ensures.value))
    (c.in-Ok.ensures.left ∙ ap (λ (bs : List ℕ). length bs % 4) c.deref.ensures.value)
    c.print_image.ensures
