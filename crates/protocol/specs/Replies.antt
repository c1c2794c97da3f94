-- What a call is answered, in words.
--   Response             a reply, or a refusal
--   reply_words n r      the words of the reply r, after n pairs of a prewrite stood
--   response_words n r   the same of a response
use Rattle.std.specs.Prelude.{ℕ, ◌+◌, ◌*◌, ◌^◌, List, [], ◌∷◌, Ok, Err, Result}
use Rattle.base.specs.declared.kind.Kind.TheVariants as kind
use Rattle.base.specs.declared.refusal.Refusal.{Refusal}
use Rattle.base.specs.Refusals.{number_of}
use Rattle.base.specs.Stamps.{nearest_stamp}
use Rattle.base.specs.Words.{word_of, value_word, stamp_word}
use Rattle.protocol.specs.declared.call.Reply.{Reply}
use Rattle.protocol.specs.declared.call.Reply.TheVariants.{Done, Value, Range, Committed, Aborted}

-- What a call is answered: a reply, or a refusal.
abbrev pub Response : Type 0
Response = Result Reply Refusal

-- A: done, with the pairs that stood after a prewrite, else 0. 9 and B: a value and its write stamp. B and B: the range of a
-- validation, whose bounds are stamps. B: a commit stamp. C: Aborted.
abbrev pub reply_words : ℕ → Reply → List ℕ
reply_words n Done = word_of kind.Done n ∷ []
reply_words n (Value v s) = value_word v ∷ stamp_word kind.Stamp s ∷ []
reply_words n (Range l u) = stamp_word kind.Stamp (nearest_stamp l) ∷ stamp_word kind.Stamp (nearest_stamp u) ∷ []
reply_words n (Committed s) = stamp_word kind.Stamp s ∷ []
reply_words n Aborted = word_of kind.Aborted 0 ∷ []

-- D: a refusal, with the pairs that stood in bits 27 to 16 and its number below.
abbrev pub response_words : ℕ → Response → List ℕ
response_words n (Ok r) = reply_words n r
response_words n (Err e) = word_of kind.Refusal (n * 2 ^ 16 + number_of e) ∷ []
