-- The kinds of words.
--   kind_number k   the number in the top four bits of a word of the kind k
use Rattle.std.specs.Prelude.{ℕ}
use Rattle.base.specs.declared.kind.Kind.{Kind}
use Rattle.base.specs.declared.kind.Kind.TheVariants.{
  Begin,
  Read,
  Prewrite,
  Validate,
  Decide,
  Withdraw,
  Settle,
  Key,
  Value,
  Done,
  Stamp,
  Aborted,
  Refusal,
  WriteStamp,
  ReadStamp,
}

-- The number of each kind: 1 to 7 head messages, 8 and 9 make pairs, 10 to 13 answer, 14 and 15 stand in a store's lines.
abbrev pub kind_number : Kind → ℕ
kind_number Begin = 1
kind_number Read = 2
kind_number Prewrite = 3
kind_number Validate = 4
kind_number Decide = 5
kind_number Withdraw = 6
kind_number Settle = 7
kind_number Key = 8
kind_number Value = 9
kind_number Done = 10
kind_number Stamp = 11
kind_number Aborted = 12
kind_number Refusal = 13
kind_number WriteStamp = 14
kind_number ReadStamp = 15
