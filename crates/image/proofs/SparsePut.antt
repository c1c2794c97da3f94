-- What a sparse store finds, and putting a cell into one.
use Rattle.std.proofs.Common.{◌≡◌, ℕ, ◌+◌, ◌*◌, ◌/◌, ◌%◌, ◌<◌, Bool, true, false, cond, eqb, List, [], length, get_or, is_none, Result, Some, None, Ok, Option, sym, refl, ap, ◌∙◌, arith, length-set}
use Rattle.std.specs.List.{position}
use Rattle.std.specs.List.Sorted.{IsBinarySearchResult, IsSearchInRange}
use Rattle.std.specs.Ordering.{nat_cmp}
use Rattle.std.specs.Result.{result_ok}
use Rattle.std.specs.Simd.{first_chunks}
use Rattle.std.proofs.lemmas.Bool.{eqb-true}
use Rattle.std.proofs.lemmas.List.Folds.{position_or_len-set}
use Rattle.std.proofs.lemmas.List.Quantifiers.{position-Some}
use Rattle.base.specs.Words.{stamp_word, value_word}
use Rattle.base.specs.declared.kind.Kind.TheVariants.{WriteStamp, ReadStamp}
use Rattle.wire.specs.Words.{low_of}
use Rattle.store.specs.declared.cell.Cell.{Cell}
use Rattle.store.specs.Stores.{Put}
use Rattle.image.specs.declared.stored_line.TheConstants.{SPARSE_LINES}
use Rattle.image.specs.Faults.{whole_fault}
use Rattle.image.specs.Lines.{key_of, lines_of, shape_cause}
use Rattle.image.specs.Memory.{Keyed, cell_at, cell_cause, line_count, width}
use Rattle.image.specs.Sparses.{sparse_cells, sparse_fault, sparse_line}
use Rattle.image.proofs.Cells.{three, three_other}
use Rattle.image.proofs.Chunks.{chunk_at, chunk_three, length_chunks, line}
use Rattle.image.proofs.FlatPut.{none_by}
use Rattle.image.proofs.Lines.{cause_none, cell_line, keyed_kept}
use Rattle.image.proofs.Naming.{rises, searched}
use Rattle.image.proofs.Puts.{after, cell_by, length_after, put_by_line}

-- A binary search of memory without a fault finds the line that names the key.
pub search_finds : (ws : List ℕ) (k : ℕ) (ls : List (List ℕ)) → true ≡ is_none (sparse_fault ws)
    → ls ≡ first_chunks 4 (length ws / 4) ws → (r : Result ℕ ℕ) → IsSearchInRange r (length ls)
    → IsBinarySearchResult (λ x. nat_cmp (key_of x) k) ls r → result_ok r ≡ sparse_line true ws k
search_finds ws k ls good e r within found =
    let w = cause_none whole_fault (shape_cause SPARSE_LINES (line_count Keyed ws) (length ws % width Keyed)) _ (none_by (sparse_fault ws) good) in
    rw e at (searched ls k (rw e (rises 0 None (lines_of Keyed ws) w.1)) r within found)

-- A key that has a line is a key of good memory.
line_in_good : (b : Bool) (p : Option ℕ) (i : ℕ) → Some i ≡ cond b p None → (b ≡ true) × (p ≡ Some i)
line_in_good true p i e = (refl, sym e)
line_in_good false p i e = cc

module _ (good : Bool) (ws : List ℕ) (k i : ℕ) (at : Some i ≡ sparse_line good ws k) where
  pub is_good : good ≡ true
  is_good = (line_in_good good _ i at).0

  named : position (λ x. eqb (key_of x) k) (lines_of Keyed ws) ≡ Some i
  named = (line_in_good good _ i at).1

  pub in_memory : i < line_count Keyed ws
  in_memory = let l = (position-Some _ (lines_of Keyed ws) i [] named).0 in omega (arith, length_chunks 4 (line_count Keyed ws) ws)

  pub has_key : key_of (get_or (lines_of Keyed ws) i []) ≡ k
  has_key = eqb-true _ k (position-Some _ (lines_of Keyed ws) i [] named).1

  -- Every key keeps its line where a cell is written into one.
  pub line_same : (x : Cell) (q : ℕ) → sparse_line true (after Keyed ws i x) q ≡ sparse_line true ws q
  line_same x q =
      let ls = lines_of Keyed ws in
      let p = λ (y : List ℕ). eqb (key_of y) q in
      let v = value_word x.value in
      let w = stamp_word WriteStamp x.write in
      let r = stamp_word ReadStamp x.read in
      let cut = chunk_three 4 (line_count Keyed ws) i 1 v w r ws (omega arith) in_memory in
      let key = three_other (get_or ls i []) 1 v w r 0 (λ z. omega arith) (λ z. omega arith) (λ z. omega arith) in
      let same = position_or_len-set p ls i (three (get_or ls i []) 1 v w r) [] (ap (λ n. eqb (low_of n) q) key) in
      rw (length_after Keyed ws i x, cut, same, length-set) refl

module _ (good : Bool) (ws : List ℕ) (k i : ℕ) (is : good ≡ is_none (sparse_fault ws)) (at : Some i ≡ sparse_line good ws k) where
  no_fault : sparse_fault ws ≡ None
  no_fault = none_by (sparse_fault ws) (sym (is_good good ws k i at) ∙ is)

  -- The cell of a key's line is the key's.
  pub fetch_finds : (ls : List (List ℕ)) (d : List ℕ) → ls ≡ first_chunks 4 (length ws / 4) ws → i < length ws / 4
      → Some (cell_at (get_or ls i d) 1) ≡ sparse_cells ws k
  fetch_finds ls d e h =
      let here : cell_at (line 4 ws i) 1 ≡ cell_at ws (4 * i + 1) = cell_line 4 ws i 1 (omega arith) in
      let chunk = ap (λ (xs : List (List ℕ)). cell_at (get_or xs i d) 1) e ∙ (ap (λ (x : List ℕ). cell_at x 1) (chunk_at 4 (length ws / 4) i ws d h) ∙ here) in
      ap Some chunk ∙ ap (cell_by Keyed ws) (at ∙ ap (λ b. sparse_line b ws k) is)

  module _ (x : Cell) (sound : cell_cause (after Keyed ws i x) (4 * i + 1) ≡ None) (vs : List ℕ) (vs_is : vs ≡ after Keyed ws i x) where
    -- Memory without a fault stays so.
    still_good : sparse_fault (after Keyed ws i x) ≡ None
    still_good =
        let w = cause_none whole_fault (shape_cause SPARSE_LINES (line_count Keyed ws) (length ws % width Keyed)) _ no_fault in
        let kept = keyed_kept (line_count Keyed ws) i (value_word x.value) (stamp_word WriteStamp x.write) (stamp_word ReadStamp x.read) ws
        (in_memory good ws k i at) sound w.1 in
        rw (length_after Keyed ws i x, w.0) kept

    -- What the flag says stays so.
    pub flag_kept : good ≡ is_none (sparse_fault vs)
    flag_kept = rw (vs_is, still_good) (is_good good ws k i at)

    pub sparse_put : cell_at (after Keyed ws i x) (4 * i + 1) ≡ x → Put (sparse_cells ws) (sparse_cells vs) k x (Ok tt)
    sparse_put here =
        let before : (q : ℕ) → sparse_cells ws q ≡ cell_by Keyed ws (sparse_line good ws q) =
        λ q. ap (λ b. cell_by Keyed ws (sparse_line b ws q)) (sym is) in
        let left : (q : ℕ) → sparse_cells (after Keyed ws i x) q ≡ cell_by Keyed (after Keyed ws i x) (sparse_line good ws q) =
        λ q. rw (still_good, is_good good ws k i at) (ap (cell_by Keyed (after Keyed ws i x)) (line_same good ws k i at x q)) in
        rw vs_is (put_by_line Keyed ws i x (sparse_line good ws) k (sym at)
        (λ q j n e z. n (sym (has_key good ws q j (sym e)) ∙ (ap (λ m. key_of (get_or (lines_of Keyed ws) m [])) z ∙ has_key good ws k i at)))
        (sparse_cells ws) (sparse_cells (after Keyed ws i x)) before left here)
