-- What a value, a stamp and a short count are as words. A word has 32 bits, and its top four are its kind.
--   word_of k b      the word of the kind k with b in its other 28 bits
--   value_word v     the word of the value v
--   stamp_word k s   the word of the stamp s, of one of the kinds that hold stamps
use Rattle.std.specs.Prelude.{ℕ, ◌+◌, ◌*◌, ◌^◌, ℤ}
use Rattle.base.specs.declared.kind.Kind.{Kind}
use Rattle.base.specs.declared.kind.Kind.TheVariants as kind
use Rattle.base.specs.declared.stamp.Stamp.{Stamp}
use Rattle.base.specs.Kinds.{kind_number}
use Rattle.base.specs.Values.{bits_of}

-- A word of the kind k with b in its other bits.
abbrev pub word_of : Kind → ℕ → ℕ
word_of k b = kind_number k * 2 ^ 28 + b

-- The word of a value: its sixteen bits in the low half.
abbrev pub value_word : ℤ → ℕ
value_word v = word_of kind.Value (bits_of v)

-- The word of a stamp: its number fills the 28 bits.
abbrev pub stamp_word : Kind → Stamp → ℕ
stamp_word k s = word_of k s.number
