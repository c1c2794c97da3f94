-- Registers after a refused call.
--   same_register    two registers with the same parts are the same: what is kept of their books has one proof
--   same_lines       what is kept of its lines does not tell a register apart
--   room_within      a book that stays has no more room than before
--   refuses          what holds in any case holds where a call was refused
--   refused_so       what follows from what holds where a call was refused
--   added_refused    a book that refused a line is as it was
use Rattle.std.proofs.Common.{◌≡◌, ◌≤◌, ℕ, Ok, Err, Result, refl, sym, subst}
use mathlib.Core.HLevel.{is_prop→PathP}
use mathlib.Core.Logic.{∥∥₁_prop}
use Rattle.std.proofs.Props.{props}
use Rattle.std.specs.Prelude.{OnErr}
use Rattle.book.specs.Books.{lines_of, room, AddsLine, Stays}
use Rattle.book.specs.declared.book.Book.{Book}
use Rattle.base.specs.declared.refusal.Refusal.{Refusal}
use Rattle.register.specs.Sound.{SoundLines}
use Rattle.register.specs.declared.register.Register.{Register}

-- Two registers have the same parts.
pub record SameParts {S P : Type 0} (r s : Register S P) : Type 0 where
  pub store : r.store ≡ s.store
  pub policy : r.policy ≡ s.policy
  pub transactions : r.transactions ≡ s.transactions
  pub rows : r.rows ≡ s.rows
  pub reads : r.reads ≡ s.reads
  pub writes : r.writes ≡ s.writes
  pub notes : r.notes ≡ s.notes

pub same_register : {S P : Type 0} (r s : Register S P) → SameParts r s → r ≡ s
same_register r s e i = record {
  store = e.store i;
  policy = e.policy i;
  transactions = e.transactions i;
  rows = e.rows i;
  reads = e.reads i;
  writes = e.writes i;
  notes = e.notes i;
  sound = is_prop→PathP
      (λ j. ∥ SoundLines (lines_of (e.transactions j)) (lines_of (e.reads j)) (lines_of (e.writes j)) ∥₁) (λ j. ∥∥₁_prop) r.sound s.sound i;
  limits = is_prop→PathP (λ j. (room (e.reads j) ≤ 512) × (room (e.writes j) ≤ 512)) (λ j. hlevel props) r.limits s.limits i;
}

-- A book that stays keeps its room.
pub room_within : {L : Type 0} (b d : Book L) (n : ℕ) → Stays b d → room b ≤ n → room d ≤ n
room_within b d n s h = subst (λ m. m ≤ n) (sym s.room) h

-- What is kept of its lines does not tell a register apart.
pub same_lines : {S P : Type 0} (r : Register S P) (sound : ∥ SoundLines (lines_of r.transactions) (lines_of r.reads) (lines_of r.writes) ∥₁)
    (limits : (room r.reads ≤ 512) × (room r.writes ≤ 512)) → record r { sound = sound; limits = limits } ≡ r
same_lines r s l =
    same_register _ _ (record { store = refl; policy = refl; transactions = refl; rows = refl; reads = refl; writes = refl; notes = refl })

pub refuses : {A : Type 0} {P : Type 0} (r : Result A Refusal) → P → OnErr r P
refuses (Ok x) h = tt
refuses (Err e) h = h

pub refused_so : {A : Type 0} {P Q : Type 0} (r : Result A Refusal) → (P → Q) → OnErr r P → OnErr r Q
refused_so (Ok x) f h = tt
refused_so (Err e) f h = f h

pub added_refused : {L : Type 0} (x : L) (b d : Book L) (r : Result Unit Refusal) → AddsLine x b d r → OnErr r (d ≡ b)
added_refused x b d (Ok u) h = tt
added_refused x b d (Err e) h = h.2
