-- The run over an arrangement of committed transactions, and when an arrangement tells a day.
--   values_after h ts vs      the values at the end of the run of the transactions ts, from the values vs on
--   values_before h ts t vs   the values that the reads of t find in it
--   reads_found h ts vs       each accepted read of the transactions ts was answered what it finds
--   ordered_commits cs        commits by rising stamp, equal stamps by rising number
--   serial_order h            the transactions that committed, in that order
use Rattle.std.specs.Prelude.{ℕ, Bool, true, false, cond, ◌&&◌, ◌||◌, List, [], ◌∷◌, map, ℤ, Some, None, Option, ◌==◌, nat_lt}
use Rattle.std.specs.Option.{option_map, option_or}
use Rattle.std.specs.Ordering.{int_eq}
use Rattle.std.specs.List.{list_all}
use Rattle.store.specs.Stores.{Cells}
use Rattle.serial.specs.Ledger.{History, Commit, reads_of, last_prewrite, commits}

-- The values that cells hold.
abbrev pub Values : Type 0
Values = ℕ → Option ℤ

-- The values of a register's cells.
abbrev pub values : Cells → Values
values cells k = option_map (λ c. c.value) (cells k)

-- The values after one transaction wrote the last accepted value of each cell that it prewrote.
abbrev pub values_after_one : History → ℕ → Values → Values
values_after_one h t vs k = option_or (last_prewrite h t k) (vs k)

-- The values after all transactions of an arrangement.
abbrev pub values_after : History → List ℕ → Values → Values
values_after h [] vs = vs
values_after h (t ∷ ts) vs = values_after h ts (values_after_one h t vs)

-- The values that a transaction's reads find: those after all that come before it.
abbrev pub values_before : History → List ℕ → ℕ → Values → Values
values_before h [] t vs = vs
values_before h (u ∷ us) t vs = cond (u == t) vs (values_before h us t (values_after_one h u vs))

-- Whether a read finds a value.
abbrev pub is_found : Option ℤ → ℤ → Bool
is_found None v = false
is_found (Some x) v = int_eq x v

-- Each transaction makes all its reads and then its writes.
abbrev pub reads_found : History → List ℕ → Values → Bool
reads_found h [] vs = true
reads_found h (t ∷ ts) vs = list_all (λ p. is_found (vs p.0) p.1) (reads_of h t) && reads_found h ts (values_after_one h t vs)

-- A commit comes before another: by stamp, then by number.
abbrev pub is_earlier : Commit → Commit → Bool
is_earlier a b = nat_lt a.stamp b.stamp || (a.stamp == b.stamp && nat_lt a.number b.number)

-- A commit put in its place among others.
abbrev pub insertion : Commit → List Commit → List Commit
insertion c [] = c ∷ []
insertion c (d ∷ ds) = cond (is_earlier c d) (c ∷ d ∷ ds) (d ∷ insertion c ds)

-- Commits in the order of (stamp, number).
abbrev pub ordered_commits : List Commit → List Commit
ordered_commits [] = []
ordered_commits (c ∷ cs) = insertion c (ordered_commits cs)

-- The arrangement of the serial run.
abbrev pub serial_order : History → List ℕ
serial_order h = map (λ c. c.number) (ordered_commits (commits h))
