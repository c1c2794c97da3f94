-- What a flat store finds, and putting a cell into one.
use Rattle.std.proofs.Common.{◌≡◌, ℕ, ◌+◌, ◌*◌, ◌/◌, ◌%◌, ◌<◌, Bool, true, false, cond, ◌&&◌, eqb, leb, ltb, List, length, get_or, is_none, Some, None, Ok, Option, sym, refl, ap, ◌∙◌, ⊎_elim, arith}
use Rattle.std.proofs.lemmas.Bool.{and_parts, cases_Bool, cond-false, cond-true, eqb-true, ltb-true}
use Rattle.std.specs.Simd.{first_chunks}
use Rattle.base.specs.Words.{stamp_word, value_word}
use Rattle.base.specs.declared.kind.Kind.TheVariants.{WriteStamp, ReadStamp}
use Rattle.store.specs.declared.cell.Cell.{Cell}
use Rattle.store.specs.Stores.{Put}
use Rattle.image.specs.declared.fault.Fault.{Fault}
use Rattle.image.specs.declared.stored_line.TheConstants.{FLAT_LINES}
use Rattle.image.specs.Faults.{whole_fault}
use Rattle.image.specs.Flats.{flat_fault, flat_line, flat_cells}
use Rattle.image.specs.Lines.{shape_cause}
use Rattle.image.specs.Memory.{Bare, cell_at, cell_cause, line_count, width}
use Rattle.image.proofs.Chunks.{chunk_at, line}
use Rattle.image.proofs.Lines.{bare_kept, cause_none, cell_line}
use Rattle.image.proofs.Puts.{after, cell_by, length_after, put_by_line}

-- A flag that says so.
pub none_by : (o : Option Fault) → true ≡ is_none o → o ≡ None
none_by (Some f) e = cc
none_by None e = refl

-- Memory without a fault stays so.
flat_kept : (g : ℕ) (ws : List ℕ) (i : ℕ) (x : Cell) → i < line_count Bare ws → cell_cause (after Bare ws i x) (3 * i) ≡ None
    → flat_fault g ws ≡ None → flat_fault g (after Bare ws i x) ≡ None
flat_kept g ws i x l s e =
    let w = cause_none whole_fault (shape_cause FLAT_LINES (line_count Bare ws) (length ws % width Bare)) _ e in
    let kept = bare_kept (line_count Bare ws) i (value_word x.value) (stamp_word WriteStamp x.write) (stamp_word ReadStamp x.read) ws l s in
    ⊎_elim
    (λ (t : leb g 7 ≡ true). rw (length_after Bare ws i x, w.0, t) (kept (sym (cond-true _ _ _ t) ∙ w.1)))
    (λ (t : leb g 7 ≡ false). let n = sym (cond-false (leb g 7) _ _ t) ∙ w.1 in cc)
    (cases_Bool (leb g 7))

-- A key that has a line.
line_has : (b : Bool) (j i : ℕ) → Some i ≡ cond b (Some j) None → (b ≡ true) × (i ≡ j)
line_has true j i e = (refl, cc)
line_has false j i e = cc

module _ (good : Bool) (g : ℕ) (ws : List ℕ) (k i : ℕ) (at : Some i ≡ flat_line good g ws k) where
  tests : (good && (eqb (k / 8192) g && ltb (k % FLAT_LINES) (line_count Bare ws)) ≡ true) × (i ≡ k % FLAT_LINES)
  tests = line_has _ (k % FLAT_LINES) i at

  pub is_good : good ≡ true
  is_good = (and_parts good _ tests.0).0

  -- Its ground is the store's, and its line is there.
  pub on_ground : k / 8192 ≡ g
  on_ground = eqb-true _ _ (and_parts (eqb (k / 8192) g) _ (and_parts good _ tests.0).1).0

  pub in_memory : i < line_count Bare ws
  in_memory = let l = ltb-true _ _ (and_parts (eqb (k / 8192) g) _ (and_parts good _ tests.0).1).1 in omega (arith, tests.1)

  pub line_is : i ≡ k % FLAT_LINES
  line_is = tests.1

-- Two keys of a ground have different lines.
own_line : (good : Bool) (g : ℕ) (ws : List ℕ) (k i q j : ℕ) → Some i ≡ flat_line good g ws k → (q ≡ k → ⊥)
    → flat_line good g ws q ≡ Some j → j ≡ i → ⊥
own_line good g ws k i q j at n e z =
    n (omega (arith, on_ground good g ws k i at, on_ground good g ws q j (sym e), line_is good g ws k i at, line_is good g ws q j (sym e)))

module _ (good : Bool) (g : ℕ) (ws : List ℕ) (k i : ℕ) (is : good ≡ is_none (flat_fault g ws))
    (at : Some i ≡ flat_line good g ws k) where
  no_fault : flat_fault g ws ≡ None
  no_fault = none_by (flat_fault g ws) (sym (is_good good g ws k i at) ∙ is)

  -- The cell of a key's line is the key's.
  pub fetch_finds : (ls : List (List ℕ)) (d : List ℕ) → ls ≡ first_chunks 3 (length ws / 3) ws → i < length ws / 3
      → Some (cell_at (get_or ls i d) 0) ≡ flat_cells g ws k
  fetch_finds ls d e h =
      let zero_more : 3 * i + 0 ≡ 3 * i = omega arith in
      let here : cell_at (line 3 ws i) 0 ≡ cell_at ws (3 * i) = cell_line 3 ws i 0 (omega arith) ∙ ap (cell_at ws) zero_more in
      let chunk = ap (λ (xs : List (List ℕ)). cell_at (get_or xs i d) 0) e ∙ (ap (λ (x : List ℕ). cell_at x 0) (chunk_at 3 (length ws / 3) i ws d h) ∙ here) in
      ap Some chunk ∙ ap (cell_by Bare ws) (at ∙ ap (λ b. flat_line b g ws k) is)

  module _ (x : Cell) (sound : cell_cause (after Bare ws i x) (3 * i) ≡ None) (vs : List ℕ) (vs_is : vs ≡ after Bare ws i x) where
    still_good : flat_fault g (after Bare ws i x) ≡ None
    still_good = flat_kept g ws i x (in_memory good g ws k i at) sound no_fault

    -- What the flag says stays so.
    pub flag_kept : good ≡ is_none (flat_fault g vs)
    flag_kept = rw (vs_is, still_good) (is_good good g ws k i at)

    pub flat_put : cell_at (after Bare ws i x) (3 * i) ≡ x → Put (flat_cells g ws) (flat_cells g vs) k x (Ok tt)
    flat_put here =
        let before : (q : ℕ) → flat_cells g ws q ≡ cell_by Bare ws (flat_line good g ws q) =
        λ q. ap (λ b. cell_by Bare ws (flat_line b g ws q)) (sym is) in
        let left : (q : ℕ) → flat_cells g (after Bare ws i x) q ≡ cell_by Bare (after Bare ws i x) (flat_line good g ws q) =
        λ q. rw (still_good, is_good good g ws k i at, length_after Bare ws i x) refl in
        rw vs_is (put_by_line Bare ws i x (flat_line good g ws) k (sym at) (λ q j. own_line good g ws k i q j at)
        (flat_cells g ws) (flat_cells g (after Bare ws i x)) before left here)
