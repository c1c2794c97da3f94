-- A transaction that makes the only calls, after none was pending: what holds while it is open, and lasts through its accesses.
--   LeavesTop r                            the row r leaves every stamp from its lower bound up to TOP
--   Solo t found m                         what holds of the register m while t is open; found are the cells as its begin found them
--   read_solo, prewrite_solo, again_solo   a first read, a first prewrite and a second one keep it
use Rattle.std.proofs.Common.{◌≡◌, ℕ, ◌<◌, true, List, [], ◌++◌, map, ℤ, pos, ◌≤ℤ◌, Some, None, Ok, Option, sym, refl, subst, arith}
use Rattle.std.proofs.ByRecursion.{All-append, All-push, All-map}
use Rattle.std.proofs.lemmas.Int.{ints}
use Rattle.std.specs.List.{AllByRecursion}
use Rattle.store.specs.Stores.{Cells}
use Rattle.store.specs.declared.cell.Cell.{Cell}
use Rattle.base.specs.Keys.{ground_of}
use Rattle.lines.specs.LineKeys.{read_key, write_key, same_access}
use Rattle.lines.specs.Locks.{row_of, is_live}
use Rattle.lines.specs.declared.access.WriteLine.{WriteLine}
use Rattle.lines.specs.declared.row.Row.{Row}
use Rattle.lines.specs.declared.transaction.Transaction.{Transaction}
use Rattle.protocol.specs.Calls.{prewrite_by}
use Rattle.protocol.specs.Checks.{check_unwritten}
use Rattle.protocol.specs.Model.{Model, with_transactions}
use Rattle.protocol.specs.Noting.{others, before_note, apart_note, write_locks, row_needed, with_read, with_prewrite}
use Rattle.serial.specs.Alone.{IsFreshCell, IsFresh}
use Rattle.serial.proofs.Lines.Found.{all_replaced}
use Rattle.serial.proofs.Alone.OwnLocks.{OnlyLive, own_locks, no_locks, unwritten_is, needed_only}
use Rattle.serial.proofs.Alone.Quiet.{Unnamed}

-- A row that is not aborted and leaves every stamp from its lower bound up to TOP.
abbrev pub LeavesTop : Row → Type 0
LeavesTop r = (r.upper ≡ pos 268435455) × (pos 0 ≤ℤ r.lower) × (r.lower ≤ℤ pos 268435455) × (is_live r.state ≡ true)

-- The cells are as they were, nobody else is at work, no note names t, its rows are fine, and the stamps it meets are below TOP.
pub record Solo (t : ℕ) (found : Cells) (m : Model) : Type 0 where
  pub cells : m.cells ≡ found
  pub only : OnlyLive t m.rows
  pub notes : AllByRecursion (Unnamed t) m.notes
  pub rows : AllByRecursion (λ r. r.transaction ≡ t → LeavesTop r) m.rows
  pub reads : AllByRecursion (λ x. x.transaction ≡ t → x.seen.number < 268435455) m.reads
  pub writes : AllByRecursion (λ x. x.transaction ≡ t → IsFresh m.cells x.key) m.writes

-- The row that t needs is fine.
needed_fine : (t g : ℕ) (o : Option Row) → AllByRecursion (λ r. r.transaction ≡ t → LeavesTop r) (row_needed o t g)
needed_fine t g None = ((λ _. (refl, omega (arith, ints), omega (arith, ints), refl)), tt)
needed_fine t g (Some r) = tt

module _ (t : ℕ) (found : Cells) (m : Model) (s : Solo t found m) where
  -- The cells are the ones that were found.
  here : (k : ℕ) → IsFresh found k → IsFresh m.cells k
  here k f = subst (λ c. IsFresh c k) (sym s.cells) f

  -- A call that changes no more than the transaction lines.
  pub same_books : (xs : List Transaction) → Solo t found (with_transactions m xs)
  same_books xs =
      record { cells = s.cells; only = s.only; notes = s.notes; rows = s.rows; reads = s.reads; writes = s.writes }

  -- A first read writes no note, since nobody holds a lock.
  pub read_solo : (k : ℕ) (c : Cell) → m.cells k ≡ Some c → check_unwritten m t ≡ Ok tt → IsFresh found k → Solo t found (with_read m t k c)
  read_solo k c at none f = record {
    cells = s.cells;
    only = needed_only t (ground_of k) m.rows s.only;
    notes = subst (λ us. AllByRecursion (Unnamed t) (m.notes ++ map (before_note k t) us)) (sym empty) (All-append (Unnamed t) m.notes [] s.notes tt);
    rows = All-append _ m.rows _ s.rows (needed_fine t (ground_of k) (row_of m.rows t (ground_of k)));
    reads = All-push _ m.reads _ s.reads (λ _. (subst IsFreshCell at (here k f)).0);
    writes = s.writes;
  }
    where
      empty : write_locks m k ≡ []
      empty = no_locks t m.rows s.only k (map write_key m.writes) (All-map _ write_key m.writes (unwritten_is m t none))

  -- Nor does a first prewrite: what locks there are are t's own.
  pub prewrite_solo : (k : ℕ) (v : ℤ) → IsFresh found k → Solo t found (with_prewrite m t k v)
  prewrite_solo k v f = record {
    cells = s.cells;
    only = needed_only t (ground_of k) m.rows s.only;
    notes =
        subst (λ us. AllByRecursion (Unnamed t) (m.notes ++ (map (λ r. before_note k r t) us ++ map (apart_note k t) (others t (write_locks m k)))))
        (sym (own_locks t m.rows s.only k (map read_key m.reads)))
        (subst (λ us. AllByRecursion (Unnamed t) (m.notes ++ map (apart_note k t) us))
        (sym (own_locks t m.rows s.only k (map write_key m.writes)))
        (All-append (Unnamed t) m.notes [] s.notes tt));
    rows = All-append _ m.rows _ s.rows (needed_fine t (ground_of k) (row_of m.rows t (ground_of k)));
    reads = s.reads;
    writes = All-push _ m.writes _ s.writes (λ _. here k f);
  }

  -- A second prewrite names the same key.
  pub again_solo : (k : ℕ) (v : ℤ) (w : WriteLine) → IsFresh found k → Solo t found (prewrite_by (Some w) m t k v).0
  again_solo k v w f = record {
    cells = s.cells;
    only = s.only;
    notes = s.notes;
    rows = s.rows;
    reads = s.reads;
    writes =
        all_replaced same_access write_key (record { transaction = t; key = k }) _ (record { transaction = t; key = k; value = v })
        (λ _. here k f) m.writes s.writes;
  }
