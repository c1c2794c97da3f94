-- A message is a head word (kind in bits 31 to 28, transaction in 27 to 16, argument in 15 to 0) and, for a prewrite, its pairs.
--   Content, content_of m   a message with its pair words as a list; that of a message of the code
--   pair_in k v             the pair (key, value) of two words, or nothing
--   pair_at ws i            the pair number i of a prewrite's pair words, or nothing
--   first_message ws        the message that words begin with and how many words it takes, or nothing
--   reading_of ws           what reading answers: that, or refused with 12 and how many words were passed over
--   message_words m         the words of a message, or nothing where no words say it
--   ReadsBack, WritesBack   reading undoes writing, and writing undoes reading
use Rattle.std.specs.Prelude.{◌≡◌, ℕ, ◌+◌, ◌*◌, ◌/◌, ◌^◌, min, Bool, true, false, cond, ◌&&◌, List, [], ◌∷◌, ◌++◌, length, take, ℤ, is_some, Some, None, Ok}
use Rattle.std.specs.Prelude.{Option, Result, ◌==◌, nat_le, nat_lt, slice_index}
use Rattle.std.specs.Option.{option_map_or, option_zip}
use Rattle.std.specs.Result.{result_ok}
use Rattle.base.specs.declared.kind.Kind.{Kind}
use Rattle.base.specs.declared.kind.Kind.TheVariants as kind
use Rattle.wire.specs.declared.message.Message.{Message}
use Rattle.wire.specs.declared.message.Message.TheVariants as message
use Rattle.wire.specs.declared.message.MessageWords.{MessageWords}
use Rattle.wire.specs.declared.message.TheConstants.{MAX_PAIRS, MAX_TRANSACTION}
use Rattle.base.specs.declared.refusal.Refusal.{Refusal}
use Rattle.base.specs.Refusals.{refused}
use Rattle.base.specs.Kinds.{kind_number}
use Rattle.base.specs.Words.{word_of}
use Rattle.wire.specs.Words.{kind_of, middle_of, low_of, key_in, value_in}

-- A message: the transaction, then the key, the pair words or the ground.
pub data Content : Type 0 where
  Begin : ℕ → Content
  Read : ℕ → ℕ → Content
  Prewrite : ℕ → List ℕ → Content
  Validate : ℕ → ℕ → Content
  Decide : ℕ → Content
  Withdraw : ℕ → Content
  Settle : ℕ → ℕ → Content

-- The content of a message of the code.
abbrev pub content_of : Message → Content
content_of (message.Begin t) = Begin t
content_of (message.Read t k) = Read t k
content_of (message.Prewrite t ps) = Prewrite t ps.now
content_of (message.Validate t g) = Validate t g
content_of (message.Decide t) = Decide t
content_of (message.Withdraw t) = Withdraw t
content_of (message.Settle t g) = Settle t g

-- The pair (key, value) of a key word and a value word.
abbrev pub pair_in : ℕ → ℕ → Option (ℕ × ℤ)
pair_in k v = option_zip (result_ok (key_in k)) (result_ok (value_in v))

-- Words that are pairs, one after another.
abbrev pub are_pairs : List ℕ → Bool
are_pairs [] = true
are_pairs (k ∷ []) = false
are_pairs (k ∷ v ∷ ws) = is_some (pair_in k v) && are_pairs ws

-- The pair number i, counted from 0, or nothing past the end.
abbrev pub pair_at : List ℕ → ℕ → Option (ℕ × ℤ)
pair_at ws i = cond (nat_lt i (length ws / 2)) (pair_in (slice_index ws (2 * i)) (slice_index ws (2 * i + 1))) None

-- How many pairs a prewrite may have.
abbrev pub is_pair_count : ℕ → Bool
is_pair_count n = nat_le 1 n && nat_le n MAX_PAIRS

-- A message of one word whose argument has to be zero.
abbrev pub bare_message : Content → ℕ → Option (Content × ℕ)
bare_message m arg = cond (arg == 0) (Some (m, 1)) None

-- A prewrite of n pairs, which are the words ws begin with.
abbrev pub prewrite_message : ℕ → ℕ → List ℕ → Option (Content × ℕ)
prewrite_message t n ws =
    cond (is_pair_count n && (nat_le (2 * n) (length ws) && are_pairs (take (2 * n) ws)))
    (Some (Prewrite t (take (2 * n) ws), 1 + 2 * n))
    None

-- The message of a head with the number n of its kind, its transaction and its argument, where the words ws follow the head.
abbrev pub message_by_kind : ℕ → ℕ → ℕ → List ℕ → Option (Content × ℕ)
message_by_kind n t arg ws =
    cond (n == kind_number kind.Begin) (bare_message (Begin t) arg)
    (cond (n == kind_number kind.Read) (Some (Read t arg, 1))
    (cond (n == kind_number kind.Prewrite) (prewrite_message t arg ws)
    (cond (n == kind_number kind.Validate) (Some (Validate t arg, 1))
    (cond (n == kind_number kind.Decide) (bare_message (Decide t) arg)
    (cond (n == kind_number kind.Withdraw) (bare_message (Withdraw t) arg)
    (cond (n == kind_number kind.Settle) (Some (Settle t arg, 1)) None))))))

-- The message that words begin with.
abbrev pub first_message : List ℕ → Option (Content × ℕ)
first_message [] = None
first_message (w ∷ ws) = message_by_kind (kind_of w) (middle_of w) (low_of w) ws

-- What reading answers: the first message and how many words it takes, or refused with 12 and one word passed over, if any.
abbrev pub reading_of : List ℕ → Result Content Refusal × ℕ
reading_of ws = option_map_or (λ p. (Ok p.0, p.1)) (first_message ws) (refused 12, min 1 (length ws))

-- A head word.
abbrev pub head_word : Kind → ℕ → ℕ → ℕ
head_word k t arg = word_of k (t * 2 ^ 16 + arg)

-- The head word of a message.
abbrev pub head_of : Content → ℕ
head_of (Begin t) = head_word kind.Begin t 0
head_of (Read t k) = head_word kind.Read t k
head_of (Prewrite t ps) = head_word kind.Prewrite t (length ps / 2)
head_of (Validate t g) = head_word kind.Validate t g
head_of (Decide t) = head_word kind.Decide t 0
head_of (Withdraw t) = head_word kind.Withdraw t 0
head_of (Settle t g) = head_word kind.Settle t g

-- The words that follow it.
abbrev pub pairs_of : Content → List ℕ
pairs_of (Begin t) = []
pairs_of (Read t k) = []
pairs_of (Prewrite t ps) = ps
pairs_of (Validate t g) = []
pairs_of (Decide t) = []
pairs_of (Withdraw t) = []
pairs_of (Settle t g) = []

-- The content of a message of the code, and how many words it takes: its head and its pairs.
abbrev pub content_and_count : Message → Content × ℕ
content_and_count m = (content_of m, 1 + length (pairs_of (content_of m)))

-- The words that writing answers, one after another.
abbrev pub word_list : MessageWords → List ℕ
word_list w = w.head ∷ w.pairs.now

-- A message that words can say: a transaction of twelve bits, an argument of sixteen, and good pairs in a good number.
abbrev pub has_words : Content → Bool
has_words (Begin t) = nat_le t MAX_TRANSACTION
has_words (Read t k) = nat_le t MAX_TRANSACTION && nat_lt k (2 ^ 16)
has_words (Prewrite t ps) = nat_le t MAX_TRANSACTION && (is_pair_count (length ps / 2) && are_pairs ps)
has_words (Validate t g) = nat_le t MAX_TRANSACTION && nat_lt g (2 ^ 16)
has_words (Decide t) = nat_le t MAX_TRANSACTION
has_words (Withdraw t) = nat_le t MAX_TRANSACTION
has_words (Settle t g) = nat_le t MAX_TRANSACTION && nat_lt g (2 ^ 16)

-- What writing answers.
abbrev pub message_words : Content → Option (List ℕ)
message_words m = cond (has_words m) (Some (head_of m ∷ pairs_of m)) None

-- Words that were written are read as the message again, whatever follows them.
abbrev pub ReadsBack : Type 0
ReadsBack = (m : Content) (ws rest : List ℕ) → message_words m ≡ Some ws → first_message (ws ++ rest) ≡ Some (m, length ws)

-- A message that was read is written as the words it was read from.
abbrev pub WritesBack : Type 0
WritesBack = (ws : List ℕ) (m : Content) (n : ℕ) → first_message ws ≡ Some (m, n) → message_words m ≡ Some (take n ws)
