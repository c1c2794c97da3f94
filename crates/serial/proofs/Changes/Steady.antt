-- What stands between two transactions lasts while notes stay and a cell's stamps do not sink.
--   Grown, MoreNotes                         a cell whose stamps did not sink; notes, and maybe more
--   noted_more, tied_more                    a note that stands still does; tied_turned: it ties two writers either way round
--   ordered_grown                            a reader and a writer stand to each other as they did
--   distanced_grown                          so do two writers; distanced_turned: either way round
--   write_grown, read_grown, reached_grown   what a cell's stamps have reached they still have
use Rattle.std.proofs.Common.{◌≡◌, ℕ, ◌≤◌, ◌⊎◌, List, ℤ, Some, None, Option, inl, inr, ⊎_elim, arith}
use Rattle.std.proofs.lemmas.Int.{ints}
use Rattle.store.specs.declared.cell.Cell.{Cell}
use Rattle.lines.specs.declared.note.Note.{Note}
use Rattle.serial.proofs.Ledger.Fates.{Fate, Away, Running, Past, Gone}
use Rattle.serial.proofs.Lines.Member.{In}
use Rattle.serial.proofs.Standing.{UpToWrite, UpToRead, Noted, Parties, Tied, Ordered, Distanced, Reached}

-- A cell that is there stays there, and its stamps do not sink.
abbrev pub Grown : Option Cell → Option Cell → Type 0
Grown None None = Unit {0}
Grown None (Some d) = ⊥
Grown (Some c) None = ⊥
Grown (Some c) (Some d) = (c.write.number ≤ d.write.number) × (c.read.number ≤ d.read.number)

pub grown_self : (c : Option Cell) → Grown c c
grown_self None = tt
grown_self (Some c) = (omega arith, omega arith)

pub write_grown : (u : ℤ) (c d : Option Cell) → Grown c d → UpToWrite u c → UpToWrite u d
write_grown u None None g h = tt
write_grown u None (Some d) g h = absurd g
write_grown u (Some c) None g h = tt
write_grown u (Some c) (Some d) g h = let i = g.0 in omega (arith, ints)

pub read_grown : (u : ℤ) (c d : Option Cell) → Grown c d → UpToRead u c → UpToRead u d
read_grown u None None g h = tt
read_grown u None (Some d) g h = absurd g
read_grown u (Some c) None g h = tt
read_grown u (Some c) (Some d) g h = let i = g.1 in omega (arith, ints)

-- Notes that all stay.
abbrev pub MoreNotes : List Note → List Note → Type 0
MoreNotes ns ms = (n : Note) → In n ns → In n ms

pub noted_more : (ns ms : List Note) → MoreNotes ns ms → (g t u : ℕ) → Noted ns g t u → Noted ms g t u
noted_more ns ms s g t u n = (n.0, s n.0 n.1, n.2, n.3, n.4, n.5)

pub tied_more : (ns ms : List Note) → MoreNotes ns ms → (g t u : ℕ) → Tied ns g t u → Tied ms g t u
tied_more ns ms s g t u n = (n.0, s n.0 n.1, n.2, n.3)

-- A note names its two parties either way round.
pub tied_turned : (ns : List Note) (g t u : ℕ) → Tied ns g t u → Tied ns g u t
tied_turned ns g t u n = (n.0, n.1, n.2, turned n.3)
  where
    turned : Parties n.0 t u → Parties n.0 u t
    turned =
        ⊎_elim (λ (e : (n.0.first ≡ t) × (n.0.second ≡ u)). inr e) (λ (e : (n.0.first ≡ u) × (n.0.second ≡ t)). inl e)

-- One of two ways is kept in its kind.
on_either : {A B C D : Type 0} → (A → C) → (B → D) → A ⊎ B → C ⊎ D
on_either f g (inl a) = inl (f a)
on_either f g (inr b) = inr (g b)

module _ (N M : Type 0) (s : N → M) (c d : Option Cell) (g : Grown c d) where
  pub ordered_grown : (w : ℤ) (e f : Fate) → Ordered w N c e f → Ordered w M d e f
  ordered_grown w Away f o = tt
  ordered_grown w Running Away o = tt
  ordered_grown w Running Running o = s o
  ordered_grown w Running (Past b l u) o = on_either (λ i. i) s o
  ordered_grown w Running Gone o = tt
  ordered_grown w (Past b l u) Away o = tt
  ordered_grown w (Past b l u) Running o = on_either s (λ i. (i.0, read_grown u c d g i.1)) o
  ordered_grown w (Past b l u) (Past b₁ l₁ u₁) o = o
  ordered_grown w (Past b l u) Gone o = tt
  ordered_grown w Gone f o = tt

  pub distanced_grown : (e f : Fate) → Distanced N c e f → Distanced M d e f
  distanced_grown Away f o = tt
  distanced_grown Running Away o = tt
  distanced_grown Running Running o = s o
  distanced_grown Running (Past b l u) o = on_either s (λ i. (i.0, write_grown u c d g i.1)) o
  distanced_grown Running Gone o = tt
  distanced_grown (Past b l u) Away o = tt
  distanced_grown (Past b l u) Running o = on_either s (λ i. (i.0, write_grown u c d g i.1)) o
  distanced_grown (Past b l u) (Past b₁ l₁ u₁) o = o
  distanced_grown (Past b l u) Gone o = tt
  distanced_grown Gone f o = tt

-- Two writers stand to each other either way round.
pub distanced_turned : (N M : Type 0) → (N → M) → (c : Option Cell) (e f : Fate) → Distanced N c e f → Distanced M c f e
distanced_turned N M s c Away Away o = tt
distanced_turned N M s c Away Running o = tt
distanced_turned N M s c Away (Past b l u) o = tt
distanced_turned N M s c Away Gone o = tt
distanced_turned N M s c Running Away o = tt
distanced_turned N M s c Running Running o = s o
distanced_turned N M s c Running (Past b l u) o = on_either s (λ i. i) o
distanced_turned N M s c Running Gone o = tt
distanced_turned N M s c (Past b l u) Away o = tt
distanced_turned N M s c (Past b l u) Running o = on_either s (λ i. i) o
distanced_turned N M s c (Past b l u) (Past b₁ l₁ u₁) (inl i) = inr i
distanced_turned N M s c (Past b l u) (Past b₁ l₁ u₁) (inr i) = inl i
distanced_turned N M s c (Past b l u) Gone o = tt
distanced_turned N M s c Gone Away o = tt
distanced_turned N M s c Gone Running o = tt
distanced_turned N M s c Gone (Past b l u) o = tt
distanced_turned N M s c Gone Gone o = tt

-- A stamp that has reached a settled transaction still has, where what it has reached lasts.
pub reached_grown : (R : ℤ → Option Cell → Type 0) (c d : Option Cell) → ((u : ℤ) → R u c → R u d) → (f : Fate) → Reached R c f
    → Reached R d f
reached_grown R c d g Away r = tt
reached_grown R c d g Running r = tt
reached_grown R c d g (Past b l u) r = λ s. g u (r s)
reached_grown R c d g Gone r = tt
