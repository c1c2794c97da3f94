-- What a message is answered, by the history of the calls that were made for it.
--   Answer                   how many pairs of a prewrite stood, and the response of the last call
--   pairs_in ws              the pairs of a prewrite's pair words
--   IsOnce c h g a           the one call c takes the history h to the history g and is answered a
--   ArePrewrites t ps n h g a   so do the prewrites of the pairs ps, where n stood before them
--   IsAnswer m h g a         so do the calls of the message m
--   IsReadAnswer r h g a     so do those of what words were read as
use Rattle.std.specs.Prelude.{◌≡◌, ℕ, zero, suc, ◌+◌, ◌/◌, min, List, [], ◌∷◌, length, ℤ, Ok, Err, Result}
use Rattle.std.specs.List.{cons_option}
use Rattle.base.specs.declared.refusal.Refusal.{Refusal}
use Rattle.wire.specs.Messages.{Content, Begin, Read, Prewrite, Validate, Decide, Withdraw, Settle, pair_at}
use Rattle.protocol.specs.Replies.{Response}
use Rattle.protocol.specs.declared.call.Call.{Call}
use Rattle.protocol.specs.declared.call.Call.TheVariants as call
use Rattle.protocol.specs.declared.call.Reply.TheVariants.{Done}
use Rattle.serial.specs.Ledger.{History}

-- A message's answer: how many of its pairs stood, 0 after any message but a prewrite, and a response.
abbrev pub Answer : Type 0
Answer = ℕ × Response

-- The pairs in words from number i on, so many.
abbrev pub pairs_from : List ℕ → ℕ → ℕ → List (ℕ × ℤ)
pairs_from ws i zero = []
pairs_from ws i (suc n) = cons_option (pair_at ws i) (pairs_from ws (i + 1) n)

-- All pairs in words.
abbrev pub pairs_in : List ℕ → List (ℕ × ℤ)
pairs_in ws = pairs_from ws 0 (length ws / 2)

-- One call: it is answered its own response.
pub record IsOnce (c : Call) (h g : History) (a : Answer) : Type 0 where
  pub response : Response
  pub history : g ≡ (c, response) ∷ h
  pub answer : a ≡ (0, response)

-- One pair more stood; a message has 64 at most.
abbrev pub one_more : ℕ → ℕ
one_more n = min (n + 1) 255

-- After a prewrite's response: an accepted one goes on, a refused one ends the message.
abbrev pub GoesOnBy : Call → ℕ → (History → Type 0) → History → History → Answer → Response → Type 0
GoesOnBy c n Later h g a (Ok x) = Later ((c, Ok x) ∷ h)
GoesOnBy c n Later h g a (Err e) = (g ≡ (c, Err e) ∷ h) × (a ≡ (n, Err e))

-- Each pair is a prewrite, in order up to the first that is refused; done where none is.
abbrev pub ArePrewrites : ℕ → List (ℕ × ℤ) → ℕ → History → History → Answer → Type 0
ArePrewrites t [] n h g a = (g ≡ h) × (a ≡ (n, Ok Done))
ArePrewrites t (p ∷ ps) n h g a =
    (r : Response) × GoesOnBy (call.Prewrite t p.0 p.1) n (λ k. ArePrewrites t ps (one_more n) k g a) h g a r

-- The calls of a message.
abbrev pub IsAnswer : Content → History → History → Answer → Type 0
IsAnswer (Begin t) h g a = IsOnce (call.Begin t) h g a
IsAnswer (Read t k) h g a = IsOnce (call.Read t k) h g a
IsAnswer (Prewrite t ws) h g a = ArePrewrites t (pairs_in ws) 0 h g a
IsAnswer (Validate t j) h g a = IsOnce (call.Validate t j) h g a
IsAnswer (Decide t) h g a = IsOnce (call.Decide t) h g a
IsAnswer (Withdraw t) h g a = IsOnce (call.Withdraw t) h g a
IsAnswer (Settle t j) h g a = IsOnce (call.Settle t j) h g a

-- What words were read as: a message, or a refusal, for which no call is made.
abbrev pub IsReadAnswer : Result Content Refusal → History → History → Answer → Type 0
IsReadAnswer (Ok m) h g a = IsAnswer m h g a
IsReadAnswer (Err e) h g a = (g ≡ h) × (a ≡ (0, Err e))
