-- What words are answered, by the history of the calls that were made for them.
--   words_of a          the words of an answer
--   Served ws h g bs    the words ws take the history h to the history g, and are answered the words bs
use Rattle.std.specs.Prelude.{◌≡◌, ℕ, ◌<◌, List, [], ◌++◌, length, drop, Result}
use Rattle.base.specs.declared.refusal.Refusal.{Refusal}
use Rattle.wire.specs.Messages.{Content, reading_of}
use Rattle.protocol.specs.Replies.{response_words}
use Rattle.serial.specs.Ledger.{History}
use Rattle.service.specs.Answered.{Answer, IsReadAnswer}

-- The words of an answer.
abbrev pub words_of : Answer → List ℕ
words_of a = response_words a.0 a.1

-- No words are answered none. Else they begin with a message, or a refusal that passes over one word; it is answered, and the words
-- after it follow.
pub data Served : List ℕ → History → History → List ℕ → Type 0 where
  nothing : (h : History) → Served [] h h []
  message : (ws : List ℕ) (h k g : History) (m : Result Content Refusal) (n : ℕ) (a : Answer) (bs : List ℕ)
      → 0 < length ws → (m, n) ≡ reading_of ws → IsReadAnswer m h k a → Served (drop n ws) k g bs → Served ws h g (words_of a ++ bs)
