-- How readers and writers of one key stand to its cell and to each other, by how far each has come at the key's ground.
--   UpToWrite, UpToRead, Over   a bound that a cell's write stamp or read stamp has reached, or one above its write stamp
--   Noted, Tied                 a note puts one transaction before another; a note of either order names both
--   Reader, Writer              a reader is above what it saw, a writer above the first cell
--   Reached                     a cell's stamp has reached a transaction that is settled
--   Ordered, Distanced          how a reader and a writer of a key, and two writers of it, stand to each other
use Rattle.std.proofs.Common.{◌≡◌, ℕ, Bool, true, ◌⊎◌, List, ℤ, pos, ◌≤ℤ◌, ◌<ℤ◌, Some, None, Option}
use Rattle.store.specs.declared.cell.Cell.{Cell}
use Rattle.base.specs.Keys.{ground_of}
use Rattle.lines.specs.declared.note.Note.{Note}
use Rattle.lines.specs.declared.note.Order.TheVariants.{Before}
use Rattle.serial.proofs.Ledger.Fates.{Fate, Away, Running, Past, Gone}
use Rattle.serial.proofs.Lines.Member.{In}

-- A bound that a cell's write stamp has reached.
abbrev pub UpToWrite : ℤ → Option Cell → Type 0
UpToWrite u None = Unit {0}
UpToWrite u (Some c) = u ≤ℤ pos c.write.number

-- A bound that a cell's read stamp has reached.
abbrev pub UpToRead : ℤ → Option Cell → Type 0
UpToRead u None = Unit {0}
UpToRead u (Some c) = u ≤ℤ pos c.read.number

-- A bound above a cell's write stamp.
abbrev pub Over : Option Cell → ℤ → Type 0
Over None l = Unit {0}
Over (Some c) l = pos c.write.number <ℤ l

-- A note says that t comes before u at the ground g.
abbrev pub Noted : List Note → ℕ → ℕ → ℕ → Type 0
Noted ns g t u = (n : Note) × In n ns × (ground_of n.key ≡ g) × (n.order ≡ Before) × (n.first ≡ t) × (n.second ≡ u)

-- The two parties of a note.
abbrev pub Parties : Note → ℕ → ℕ → Type 0
Parties n t u = ((n.first ≡ t) × (n.second ≡ u)) ⊎ ((n.first ≡ u) × (n.second ≡ t))

-- A note of either order names t and u at the ground g.
abbrev pub Tied : List Note → ℕ → ℕ → ℕ → Type 0
Tied ns g t u = (n : Note) × In n ns × (ground_of n.key ≡ g) × Parties n t u

-- A reader that saw the stamp w and is Running, by the fate of a writer: the writer was seen, or a note says that it comes after.
abbrev pub RunningReader : ℤ → Type 0 → Fate → Type 0
RunningReader w N Away = Unit {0}
RunningReader w N Running = N
RunningReader w N (Past b l u) = (u ≤ℤ w) ⊎ N
RunningReader w N Gone = Unit {0}

-- The same of a reader that is past: the writer was seen, or comes after; a Running one is noted, or is held off by the read stamp.
abbrev pub PastReader : ℤ → Type 0 → Option Cell → Bool → ℤ → Fate → Type 0
PastReader w N c b u Away = Unit {0}
PastReader w N c b u Running = N ⊎ ((b ≡ true) × UpToRead u c)
PastReader w N c b u (Past b₁ l₁ u₁) = (u₁ ≤ℤ w) ⊎ (u <ℤ l₁)
PastReader w N c b u Gone = Unit {0}

-- How a reader stands to a writer of the same key, by their fates.
abbrev pub Ordered : ℤ → Type 0 → Option Cell → Fate → Fate → Type 0
Ordered w N c Away f = Unit {0}
Ordered w N c Running f = RunningReader w N f
Ordered w N c (Past b l u) f = PastReader w N c b u f
Ordered w N c Gone f = Unit {0}

-- A writer that is Running, by the fate of another writer of the key: a note names them, or the write stamp holds it off.
abbrev pub RunningWriter : Type 0 → Option Cell → Fate → Type 0
RunningWriter N c Away = Unit {0}
RunningWriter N c Running = N
RunningWriter N c (Past b l u) = N ⊎ ((b ≡ true) × UpToWrite u c)
RunningWriter N c Gone = Unit {0}

-- The same of a writer that is past: the ranges of two that are past have nothing in common.
abbrev pub PastWriter : Type 0 → Option Cell → Bool → ℤ → ℤ → Fate → Type 0
PastWriter N c b l u Away = Unit {0}
PastWriter N c b l u Running = N ⊎ ((b ≡ true) × UpToWrite u c)
PastWriter N c b l u (Past b₁ l₁ u₁) = (u <ℤ l₁) ⊎ (u₁ <ℤ l)
PastWriter N c b l u Gone = Unit {0}

-- How two writers of one key stand to each other, by their fates.
abbrev pub Distanced : Type 0 → Option Cell → Fate → Fate → Type 0
Distanced N c Away f = Unit {0}
Distanced N c Running f = RunningWriter N c f
Distanced N c (Past b l u) f = PastWriter N c b l u f
Distanced N c Gone f = Unit {0}

-- A reader that is past is above the stamp that it saw; and whoever read is not away.
abbrev pub Reader : ℕ → Fate → Type 0
Reader w Away = ⊥
Reader w Running = Unit {0}
Reader w (Past b l u) = pos w <ℤ l
Reader w Gone = Unit {0}

-- A writer that is past is above the key's first write stamp; and whoever wrote is not away.
abbrev pub Writer : Option Cell → Fate → Type 0
Writer f Away = ⊥
Writer f Running = Unit {0}
Writer f (Past b l u) = Over f l
Writer f Gone = Unit {0}

-- A cell's stamp has reached the bound of a transaction that is settled.
abbrev pub Reached : (ℤ → Option Cell → Type 0) → Option Cell → Fate → Type 0
Reached R c Away = Unit {0}
Reached R c Running = Unit {0}
Reached R c (Past b l u) = b ≡ true → R u c
Reached R c Gone = Unit {0}
