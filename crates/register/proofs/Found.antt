-- Lines that a register finds from the end, where what its type says of them holds.
--   finds_transaction, finds_read, finds_write   they are the first of their key
--   last_number      the last transaction line has the largest number
--   number_above     a number that passes its check is above all that were begun
--   begun_kept       one more transaction leaves what the register keeps
use Rattle.std.proofs.Common.{◌≡◌, ℕ, ◌-◌, ◌<◌, Bool, true, false, ◌&&◌, map, length, nat_eq, nat_lt, Ok, Err, Result, sym, refl, subst, unwrap_or, arith}
use Rattle.std.proofs.lemmas.Bool.Decides.{nat_tests}
use Rattle.std.specs.List.{slice_get}
use Rattle.std.specs.Option.{option_map}
use Rattle.std.specs.Ordering.{nat_cmp}
use Rattle.base.proofs.Clash.{clash}
use Rattle.base.specs.declared.refusal.Refusal.{Refusal}
use Rattle.book.proofs.Rising.{rising_distinct, last_largest}
use Rattle.book.specs.Books.{lines_of, largest_key, AddsLine}
use Rattle.book.specs.declared.book.Book.{Book}
use Rattle.protocol.specs.Checks.{check_number, check_that, last_begun}
use Rattle.protocol.specs.Model.{Model}
use Rattle.register.specs.Sound.{SoundLines}
use Rattle.lines.specs.LineKeys.{read_key, write_key, same_access}
use Rattle.lines.specs.declared.access.AccessKey.{AccessKey}
use Rattle.lines.specs.declared.transaction.Transaction.{Transaction}
use Rattle.register.specs.declared.register.Register.{Register}
use Rattle.register.proofs.Places.{Finds, finds}
use Rattle.register.proofs.Distinct.{same_number_equal, same_access_equal}
use Rattle.register.proofs.Sound.{lines_sound, begun}

-- The number of a transaction line.
abbrev pub number : Transaction → ℕ
number x = x.number

module _ {S P : Type 0} (r : Register S P) where
  sound : SoundLines (lines_of r.transactions) (lines_of r.reads) (lines_of r.writes)
  sound = lines_sound (lines_of r.transactions) (lines_of r.reads) (lines_of r.writes) r.sound

  pub finds_transaction : (t : ℕ) → Finds nat_eq number t (lines_of r.transactions)
  finds_transaction t =
      finds nat_eq same_number_equal number t (lines_of r.transactions) (rising_distinct (map number (lines_of r.transactions)) sound.rising)

  pub finds_read : (k : AccessKey) → Finds same_access read_key k (lines_of r.reads)
  finds_read k = finds same_access same_access_equal read_key k (lines_of r.reads) sound.reads

  pub finds_write : (k : AccessKey) → Finds same_access write_key k (lines_of r.writes)
  finds_write k = finds same_access same_access_equal write_key k (lines_of r.writes) sound.writes

  pub last_number : option_map number (slice_get (lines_of r.transactions) (length (lines_of r.transactions) - 1))
      ≡ largest_key nat_cmp (map number (lines_of r.transactions))
  last_number = last_largest number (lines_of r.transactions) sound.rising

-- A number that passes its check is above all that were begun.
pub number_above : (m : Model) (t : ℕ) (u : Unit) → check_number m t ≡ Ok u → last_begun m < t
number_above m t u e = let test : nat_lt (last_begun m) t ≡ true = first (nat_lt (last_begun m) t) _ e in grind (arith, nat_tests)
  where
    first : (a b : Bool) → check_that (a && b) 1 ≡ Ok u → a ≡ true
    first true b e = refl
    first false b e = clash cc

-- One more transaction, whose number is above all that were begun, leaves what the register keeps; so does a refusal.
pub begun_kept : {S P : Type 0} (r : Register S P) (x : Transaction) (d : Book Transaction) (a : Result Unit Refusal)
    → AddsLine x r.transactions d a → unwrap_or (largest_key nat_cmp (map number (lines_of r.transactions))) 0 < x.number
    → ∥ SoundLines (lines_of d) (lines_of r.reads) (lines_of r.writes) ∥₁
begun_kept r x d (Ok u) h l =
    let ts = lines_of r.transactions in
    let rs = lines_of r.reads in
    let ws = lines_of r.writes in
    ∣ subst (λ ys. SoundLines ys rs ws) (sym h.1) (begun ts rs ws (lines_sound ts rs ws r.sound) x l) ∣₁
begun_kept r x d (Err e) h l = subst (λ (b : Book Transaction). ∥ SoundLines (lines_of b) (lines_of r.reads) (lines_of r.writes) ∥₁) (sym h.2) r.sound
