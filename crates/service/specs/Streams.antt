-- Bytes in, text out.
--   answer_line w         an answer word as a line: eight capital hexadecimal digits
--   answer_text ws        such lines, one after another
--   bytes_read bs         what is read of the input bs
--   IsRead known bs       the bytes bs are what is read of an input, where it is known
--   leftover_answer n     the answer to n bytes that are left over
--   Streamed bs h g text  the bytes bs take the history h to the history g, and are answered the text
--   IsStreamedDay P first rooms m known o p   an input makes a whole day that leads to m, and its text follows the bytes o in the bytes p
use Rattle.std.specs.Prelude.{◌≡◌, ℕ, ◌+◌, ◌*◌, ◌/◌, ◌%◌, ◌^◌, cond, List, [], ◌∷◌, ◌++◌, length, take, Option, ◌==◌, nat_lt, IfSome}
use Rattle.std.specs.List.{flat_map}
use Rattle.base.specs.Refusals.{refused}
use Rattle.wire.specs.Bytes.{words_in}
use Rattle.protocol.specs.Replies.{response_words}
use Rattle.std.specs.Io.KnownBytes.{Appends}
use Rattle.store.specs.Stores.{Cells}
use Rattle.protocol.specs.Model.{Model, Chooses, Rooms}
use Rattle.serial.specs.Ledger.{History}
use Rattle.serial.specs.Promise.{Promised}
use Rattle.service.specs.Served.{Served}
use Rattle.service.specs.declared.streaming.TheConstants.{MOST_WORDS}

-- A hexadecimal digit: 0 to 9, A to F.
abbrev pub hex_digit : ℕ → ℕ
hex_digit n = cond (nat_lt n 10) (48 + n) (55 + n)

-- The digits of a word, the highest four bits first, and the end of the line.
abbrev pub answer_line : ℕ → List ℕ
answer_line w =
    hex_digit (w / 2 ^ 28) ∷ hex_digit (w / 2 ^ 24 % 16) ∷ hex_digit (w / 2 ^ 20 % 16) ∷ hex_digit (w / 2 ^ 16 % 16) ∷
    hex_digit (w / 2 ^ 12 % 16) ∷ hex_digit (w / 2 ^ 8 % 16) ∷ hex_digit (w / 2 ^ 4 % 16) ∷ hex_digit (w % 16) ∷ 10 ∷ []

-- A line for each word.
abbrev pub answer_text : List ℕ → List ℕ
answer_text ws = flat_map answer_line ws

-- What is read of an input: the bytes of the most words that there may be, and none past those.
abbrev pub bytes_read : List ℕ → List ℕ
bytes_read bs = take (4 * MOST_WORDS) bs

-- What was read, of an input of which a reader may not say what it is.
abbrev pub IsRead : Option (List ℕ) → List ℕ → Type 0
IsRead known bs = IfSome known (λ all. bs ≡ bytes_read all)

-- The answer to so many bytes that are left over after the last whole word: they are a malformed message.
abbrev pub leftover_answer : ℕ → List ℕ
leftover_answer n = cond (n == 0) [] (response_words 0 (refused 12))

-- The words of what was read are served, and then what is left over is answered.
pub record Streamed (bs : List ℕ) (h g : History) (text : List ℕ) : Type 0 where
  pub answers : List ℕ
  pub served : Served (words_in bs) h g answers
  pub written : text ≡ answer_text answers ++ answer_text (leftover_answer (length bs % 4))

-- A whole day: some calls that lead from a new register to the register m, of which all is promised, were made for what was read, and their
-- answers went behind what was written before.
abbrev pub IsStreamedDay : Chooses → Cells → Rooms → Model → Option (List ℕ) → Option (List ℕ) → Option (List ℕ) → Type 0
IsStreamedDay P first rooms m known before after =
    (bs : List ℕ) × IsRead known bs × ((g : History) × Promised P first rooms g m × ((text : List ℕ) × Streamed bs [] g text
    × Appends before after text))
