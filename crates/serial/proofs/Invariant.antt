-- What holds at every moment of a day. docs/serial-proof.md has it in words, by the letters that stand here.
--   View, view h m        what there is to speak of at one moment: by the ledger, and by the register's cells and notes
--   Sound first V         of cells, readers and writers: C1, C2, V, S, R and W
--   Stamped h             of stamps: D
--   AlikeReads h          of later reads of a key
--   LivePending rows h    of rows whose locks stand
--   Known m               of the numbers in the books: N
--   Invariant first h m   all of it, with B, and that the ledger and the books say the same
use Rattle.std.proofs.Common.{◌≡◌, ℕ, ◌≤◌, true, false, eqb, ◌⊎◌, List, ℤ, pos, ◌≤ℤ◌, Some, None, Option}
use Rattle.std.specs.List.{AllByRecursion}
use Rattle.store.specs.Stores.{Cells}
use Rattle.store.specs.declared.cell.Cell.{Cell}
use Rattle.base.specs.Keys.{ground_of}
use Rattle.lines.specs.Locks.{row_of, is_live}
use Rattle.lines.specs.Rows.{IsBounded}
use Rattle.lines.specs.declared.note.Note.{Note}
use Rattle.lines.specs.declared.row.Row.{Row}
use Rattle.protocol.specs.Model.{Model}
use Rattle.serial.specs.Ledger.{History, Commit, commits, reads_of, last_prewrite, is_pending}
use Rattle.serial.proofs.Ledger.Fates.{Fate, Away, Running, Past, Gone, fate, sight_of, stamp_of}
use Rattle.serial.proofs.Ledger.InOrder.{CommitsOnce}
use Rattle.serial.proofs.Ledger.Linked.{Linked}
use Rattle.serial.proofs.Lines.Member.{In}
use Rattle.serial.proofs.Standing.{UpToWrite, UpToRead, Noted, Tied, Reader, Writer, Reached, Ordered, Distanced}

-- Fates, what was seen, what was put, the cells and the notes.
pub record View : Type 0 where
  pub fates : ℕ → ℕ → Fate
  pub seen : ℕ → ℕ → Option (ℤ × ℕ)
  pub put : ℕ → ℕ → Option ℤ
  pub cells : Cells
  pub notes : List Note

-- What the ledger says, with the register's cells and notes.
abbrev pub view : History → Model → View
view h m = record { fates = fate h; seen = sight_of h; put = last_prewrite h; cells = m.cells; notes = m.notes }

-- A value with its stamp is the first of the key, or a settled writer's.
abbrev pub Origin : Cells → View → ℕ → ℤ → ℕ → Type 0
Origin first V k v w =
    ((f : Cell) × (first k ≡ Some f) × (f.value ≡ v) × (f.write.number ≡ w))
    ⊎ ((u : ℕ) × (V.fates u (ground_of k) ≡ Past true (pos w) (pos w)) × (V.put u k ≡ Some v))

-- A key has a cell as long as it had one at first; its write stamp does not sink, and its value has its origin.
abbrev pub CellKept : Cells → View → ℕ → Option Cell → Option Cell → Type 0
CellKept first V k None None = Unit {0}
CellKept first V k None (Some c) = ⊥
CellKept first V k (Some f) None = ⊥
CellKept first V k (Some f) (Some c) = (f.write.number ≤ c.write.number) × Origin first V k c.value c.write.number

-- The same of the cells of a view.
abbrev pub CellKeptAt : Cells → View → ℕ → Type 0
CellKeptAt first V k = CellKept first V k (first k) (V.cells k)

-- How the reader t, which saw the stamp w, stands to the writer u of the key k at the ground g.
abbrev pub OrderedAt : View → ℕ → ℕ → ℕ → ℕ → ℕ → Type 0
OrderedAt V k w g t u = Ordered (pos w) (Noted V.notes g t u) (V.cells k) (V.fates t g) (V.fates u g)

-- How the writers t and u of the key k stand to each other at the ground g.
abbrev pub DistancedAt : View → ℕ → ℕ → ℕ → ℕ → Type 0
DistancedAt V k g t u = Distanced (Tied V.notes g t u) (V.cells k) (V.fates t g) (V.fates u g)

-- Of cells, readers and writers.
--   cell            C1: a cell's value and write stamp are the first ones, or a settled writer's
--   write_reached   C1: and its write stamp has reached each settled writer of the key
--   read_reached    C2: its read stamp has reached each settled reader
--   origin          S: what each transaction saw are the first value and write stamp, or a settled writer's
--   has             whoever writes a key finds a cell there
--   reader          V: a reader that is past is above what it saw
--   writer          V: a writer that is past is above the first write stamp
--   ordered         R: of a reader and a writer of a key
--   distanced       W: of two writers of a key
pub record Sound (first : Cells) (V : View) : Type 0 where
  pub cell : (k : ℕ) → CellKeptAt first V k
  pub write_reached : (t k : ℕ) (x : ℤ) → V.put t k ≡ Some x → Reached UpToWrite (V.cells k) (V.fates t (ground_of k))
  pub read_reached : (t k : ℕ) (x : ℤ × ℕ) → V.seen t k ≡ Some x → Reached UpToRead (V.cells k) (V.fates t (ground_of k))
  pub origin : (t k : ℕ) (x : ℤ × ℕ) → V.seen t k ≡ Some x → Origin first V k x.0 x.1
  pub has : (t k : ℕ) (x : ℤ) → V.put t k ≡ Some x → (f : Cell) × (first k ≡ Some f)
  pub reader : (t k : ℕ) (x : ℤ × ℕ) → V.seen t k ≡ Some x → Reader x.1 (V.fates t (ground_of k))
  pub writer : (t k : ℕ) (x : ℤ) → V.put t k ≡ Some x → Writer (first k) (V.fates t (ground_of k))
  pub ordered : (t u k : ℕ) (x : ℤ × ℕ) (y : ℤ) → eqb t u ≡ false → V.seen t k ≡ Some x → V.put u k ≡ Some y
      → OrderedAt V k x.1 (ground_of k) t u
  pub distanced : (t u k : ℕ) (x y : ℤ) → eqb t u ≡ false → V.put t k ≡ Some x → V.put u k ≡ Some y
      → DistancedAt V k (ground_of k) t u

-- A stamp suits a ground: the transaction never touched it, or is past there with the stamp in its range.
abbrev pub Suits : ℕ → Fate → Type 0
Suits c Away = Unit {0}
Suits c Running = ⊥
Suits c (Past b l u) = (l ≤ℤ pos c) × (pos c ≤ℤ u)
Suits c Gone = ⊥

-- D. What the ledger says of stamps: each suits every ground, whoever is settled has one, and the commits are those who have one.
pub record Stamped (h : History) : Type 0 where
  pub suits : (t c g : ℕ) → stamp_of h t ≡ Some c → Suits c (fate h t g)
  pub settled : (t g : ℕ) (l u : ℤ) → fate h t g ≡ Past true l u → (c : ℕ) × (stamp_of h t ≡ Some c) × (l ≡ pos c) × (u ≡ pos c)
  pub once : CommitsOnce (commits h)
  pub listed : (c : Commit) → In c (commits h) → stamp_of h c.number ≡ Some c.stamp
  pub found : (t c : ℕ) → stamp_of h t ≡ Some c → In (record { stamp = c; number = t }) (commits h)

-- A key and a value that t saw there.
abbrev pub Saw : History → ℕ → ℕ × ℤ → Type 0
Saw h t p = (w : ℕ) × (sight_of h t p.0 ≡ Some (p.1, w))

-- Every accepted read was answered what the first of its key was.
abbrev pub AlikeReads : History → Type 0
AlikeReads h = (t : ℕ) → AllByRecursion (Saw h t) (reads_of h t)

-- Every live row's transaction is pending at its ground.
abbrev pub LivePending : List Row → History → Type 0
LivePending rows h = (u j : ℕ) (r : Row) → row_of rows u j ≡ Some r → is_live r.state ≡ true → is_pending h u j ≡ true

-- N. Every number in the rows, the read lines, the write lines and the notes is at most n.
abbrev pub KnownUpTo : ℕ → Model → Type 0
KnownUpTo n m =
    AllByRecursion (λ r. r.transaction ≤ n) m.rows × AllByRecursion (λ x. x.transaction ≤ n) m.reads
    × AllByRecursion (λ x. x.transaction ≤ n) m.writes × AllByRecursion (λ x. (x.first ≤ n) × (x.second ≤ n)) m.notes

-- What bounds the numbers begun bounds every number in the books.
abbrev pub Known : Model → Type 0
Known m = (n : ℕ) → AllByRecursion (λ x. x.number ≤ n) m.transactions → KnownUpTo n m

-- All of it.
--   linked    the books hold what the ledger says
--   sound     C1, C2, V, S, R and W
--   stamped   D
--   alike     S, of later reads of a key
--   live      whoever's locks stand at a ground is pending there
--   known     N
--   bounded   B
pub record Invariant (first : Cells) (h : History) (m : Model) : Type 0 where
  pub linked : Linked h m
  pub sound : Sound first (view h m)
  pub stamped : Stamped h
  pub alike : AlikeReads h
  pub live : LivePending m.rows h
  pub known : Known m
  pub bounded : AllByRecursion IsBounded m.rows
