-- Putting a cell into the line of a key, in either layout.
use Rattle.std.proofs.Common.{◌≡◌, ℕ, ◌+◌, ◌≤◌, ◌≢◌, List, length, get_or, Some, None, Ok, Option, refl, ap, ◌∙◌, ⊎_elim, add-zero, arith}
use mathlib.Core.Path.{fun_ext}
use Rattle.std.proofs.lemmas.Bool.{cases_eq, eq-eqb, ne_eqb}
use Rattle.std.specs.Option.{option_map}
use Rattle.store.specs.declared.cell.Cell.{Cell}
use Rattle.image.specs.Memory.{Layout, Bare, Keyed, cell_at, cell_index, with_cell_at}
use Rattle.store.specs.Stores.{Cells, Put}
use Rattle.image.proofs.Cells.{three_other, length_three}

-- The memory after a cell is written into line i.
abbrev pub after : Layout → List ℕ → ℕ → Cell → List ℕ
after l ws i x = with_cell_at ws (cell_index l i) x

-- The words of different lines' cells lie apart.
apart : (l : Layout) (i j d e : ℕ) → j ≢ i → d ≤ 2 → e ≤ 2 → cell_index l j + d ≢ cell_index l i + e
apart Bare i j d e n h k = λ z. n (omega arith)
apart Keyed i j d e n h k = λ z. n (omega arith)

module _ (l : Layout) (ws : List ℕ) (i : ℕ) (x : Cell) where
  pub length_after : length (after l ws i x) ≡ length ws
  length_after = length_three ws (cell_index l i) _ _ _

  other_word : (j d : ℕ) → j ≢ i → d ≤ 2 → get_or (after l ws i x) (cell_index l j + d) 0 ≡ get_or ws (cell_index l j + d) 0
  other_word j d n h =
      three_other ws (cell_index l i) _ _ _ (cell_index l j + d)
      (λ z. apart l i j d 0 n h (omega arith) (omega arith))
      (apart l i j d 1 n h (omega arith))
      (apart l i j d 2 n h (omega arith))

  other_first : (j : ℕ) → j ≢ i → get_or (after l ws i x) (cell_index l j) 0 ≡ get_or ws (cell_index l j) 0
  other_first j n = simp add-zero at (other_word j 0 n (omega arith))

  -- Other lines keep their cells.
  pub other_cell : (j : ℕ) → j ≢ i → cell_at (after l ws i x) (cell_index l j) ≡ cell_at ws (cell_index l j)
  other_cell j n = rw (other_first j n, other_word j 1 n (omega arith), other_word j 2 n (omega arith)) refl

-- The cell of a key's line, if it has one.
abbrev pub cell_by : Layout → List ℕ → Option ℕ → Option Cell
cell_by l ws o = option_map (λ j. cell_at ws (cell_index l j)) o

module _ (l : Layout) (ws : List ℕ) (i : ℕ) (x : Cell) (line : ℕ → Option ℕ) (k : ℕ) (at : line k ≡ Some i)
    (apart_from : (q j : ℕ) → (q ≡ k → ⊥) → line q ≡ Some j → j ≡ i → ⊥) where
  -- Keys of other lines keep their cells.
  others_keep : (q : ℕ) → (q ≡ k → ⊥) → (o : Option ℕ) → line q ≡ o → cell_by l (after l ws i x) o ≡ cell_by l ws o
  others_keep q n None e = refl
  others_keep q n (Some j) e = ap Some (other_cell l ws i x j (apart_from q j n e))

  -- Where each key has the cell of its line, before and after, a cell written into the line of a key is put at that key.
  pub put_by_line : (m n : Cells) → ((q : ℕ) → m q ≡ cell_by l ws (line q))
      → ((q : ℕ) → n q ≡ cell_by l (after l ws i x) (line q))
      → cell_at (after l ws i x) (cell_index l i) ≡ x → Put m n k x (Ok tt)
  put_by_line m n before left here = record {
    answers = rw (before k, at) refl;
    leaves = rw (before k, at) (fun_ext (λ q. left q ∙ ⊎_elim
        (λ (e : q ≡ k). rw (e, eq-eqb k k refl, at) (ap Some here))
        (λ (d : q ≡ k → ⊥). rw (ne_eqb q k d, before q) (others_keep q d (line q) refl))
        (cases_eq q k)));
  }
