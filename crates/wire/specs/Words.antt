-- The parts of a word, and what it holds. The words of values and stamps are the base's.
--   kind_of w, middle_of w, low_of w   bits 31 to 28, 27 to 16 and 15 to 0
--   key_word k                         the word of the key k
--   key_in, value_in, stamp_in         what a word of a key, a value or a stamp holds, or what is wrong with it
use Rattle.std.specs.Prelude.{ℕ, ◌/◌, ◌%◌, ◌^◌, cond, ℤ, Ok, Err, Result, ◌==◌}
use Rattle.std.specs.Result.{result_map_both}
use Rattle.base.specs.declared.kind.Kind.{Kind}
use Rattle.base.specs.declared.kind.Kind.TheVariants as kind
use Rattle.base.specs.declared.stamp.Stamp.{Stamp}
use Rattle.base.specs.Words.{word_of}
use Rattle.wire.specs.declared.word.StampKind.{StampKind}
use Rattle.wire.specs.declared.word.StampKind.TheVariants.{Answer, Write, Read}
use Rattle.wire.specs.declared.word.WordFault.{WordFault}
use Rattle.wire.specs.declared.word.WordFault.TheVariants.{WrongKind, StrayBits}
use Rattle.base.specs.Kinds.{kind_number}
use Rattle.base.specs.Stamps.{stamp}
use Rattle.base.specs.Values.{value_of}

-- The number of a word's kind: bits 31 to 28.
abbrev pub kind_of : ℕ → ℕ
kind_of w = w / 2 ^ 28

-- Bits 27 to 16.
abbrev pub middle_of : ℕ → ℕ
middle_of w = w / 2 ^ 16 % 2 ^ 12

-- Bits 15 to 0.
abbrev pub low_of : ℕ → ℕ
low_of w = w % 2 ^ 16

-- The low sixteen bits of a word of the kind k, whose bits 27 to 16 are zero.
abbrev pub low_half : Kind → ℕ → Result ℕ WordFault
low_half k w = cond (kind_of w == kind_number k) (cond (middle_of w == 0) (Ok (low_of w)) (Err StrayBits)) (Err WrongKind)

-- The word of a key.
abbrev pub key_word : ℕ → ℕ
key_word k = word_of kind.Key k

-- The kinds of words with a stamp: B, E and F.
abbrev pub stamp_kind : StampKind → Kind
stamp_kind Answer = kind.Stamp
stamp_kind Write = kind.WriteStamp
stamp_kind Read = kind.ReadStamp

-- The key in a word.
abbrev pub key_in : ℕ → Result ℕ WordFault
key_in w = low_half kind.Key w

-- The value in a word.
abbrev pub value_in : ℕ → Result ℤ WordFault
value_in w = result_map_both value_of (λ f. f) (low_half kind.Value w)

-- The stamp in bits 27 to 0 of a word.
abbrev pub stamp_in : Kind → ℕ → Result Stamp WordFault
stamp_in k w = cond (kind_of w == kind_number k) (Ok (stamp (w % 2 ^ 28))) (Err WrongKind)
