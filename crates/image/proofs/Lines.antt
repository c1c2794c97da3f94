-- Lines without a fault, and that they stay so where a sound cell is written into one.
use Rattle.std.proofs.Common.{◌≡◌, ℕ, zero, suc, ◌+◌, ◌*◌, ◌<◌, List, [], ◌∷◌, length, get_or, set, Some, None, Option, refl, ap, sym, ◌∙◌, add_assoc, arith}
use Rattle.std.specs.Option.{option_map, option_or}
use Rattle.std.specs.Simd.{first_chunks}
use Rattle.std.proofs.lemmas.List.{get_or-set_same}
use Rattle.wire.specs.Words.{key_in}
use Rattle.image.specs.declared.fault.Cause.{Cause}
use Rattle.image.specs.declared.fault.Fault.{Fault}
use Rattle.image.specs.Faults.{cause_in, line_fault}
use Rattle.image.specs.Lines.{bare_cause, first_fault, keyed_cause, rising_cause}
use Rattle.image.specs.Memory.{cell_at, cell_cause}
use Rattle.image.proofs.Cells.{three, three_other}
use Rattle.image.proofs.Chunks.{chunk_at, chunk_three, length_chunks, line, line_word}

-- Of two things that may be wrong neither is, where the first that is is none.
pub both_none : {A : Type 0} (a b : Option A) → option_or a b ≡ None → (a ≡ None) × (b ≡ None)
both_none (Some c) b e = cc
both_none None b e = (refl, e)

-- The same where the first is a cause and the second the fault of what follows.
pub cause_none : (f : Cause → Fault) (a : Option Cause) (b : Option Fault) → option_or (option_map f a) b ≡ None → (a ≡ None) × (b ≡ None)
cause_none f (Some c) b e = cc
cause_none f None b e = (refl, e)

-- Three words of a line are three of the memory.
module _ (w : ℕ) (ws : List ℕ) (i d : ℕ) (h : d + 2 < w) where
  first_word : get_or (line w ws i) d 0 ≡ get_or ws (w * i + d) 0
  first_word = line_word w ws i d (omega arith)

  second_word : get_or (line w ws i) (d + 1) 0 ≡ get_or ws (w * i + d + 1) 0
  second_word = line_word w ws i (d + 1) (omega arith) ∙ ap (λ n. get_or ws n 0) (sym (add_assoc (w * i) d 1))

  third_word : get_or (line w ws i) (d + 2) 0 ≡ get_or ws (w * i + d + 2) 0
  third_word = line_word w ws i (d + 2) h ∙ ap (λ n. get_or ws n 0) (sym (add_assoc (w * i) d 2))

  pub cell_line : cell_at (line w ws i) d ≡ cell_at ws (w * i + d)
  cell_line = rw (first_word, second_word, third_word) refl

  pub cause_line : cell_cause (line w ws i) d ≡ cell_cause ws (w * i + d)
  cause_line = rw (first_word, second_word, third_word) refl

module _ (cause : Option (List ℕ) → List ℕ → Option Cause) (y : List ℕ) where
  -- Lines after one that is changed, where they do not mind.
  after_changed : (n : ℕ) (x : List ℕ) (xs : List (List ℕ)) → ((z : List ℕ) → cause (Some y) z ≡ cause (Some x) z)
      → first_fault cause n (Some y) xs ≡ first_fault cause n (Some x) xs
  after_changed n x [] same = refl
  after_changed n x (z ∷ xs) same = ap (λ o. option_or (option_map (line_fault n) o) (first_fault cause (n + 1) (Some z) xs)) (same z)

  -- Lines of which one is changed into another with nothing wrong.
  pub still_none : (n i : ℕ) (b : Option (List ℕ)) (xs : List (List ℕ)) → i < length xs → first_fault cause n b xs ≡ None
      → ((p : Option (List ℕ)) → cause p (get_or xs i []) ≡ None → cause p y ≡ None)
      → ((z : List ℕ) → cause (Some y) z ≡ cause (Some (get_or xs i [])) z) → first_fault cause n b (set xs i y) ≡ None
  still_none n i b [] h e here next = absurd (omega arith)
  still_none n zero b (x ∷ xs) h e here next =
      let p = cause_none (line_fault n) (cause b x) _ e in
      rw (here b p.0) (after_changed (n + 1) x xs next ∙ p.1)
  still_none n (suc i) b (x ∷ xs) h e here next =
      let p = cause_none (line_fault n) (cause b x) _ e in
      rw p.0 (still_none (n + 1) i (Some x) xs (omega arith) p.1 here next)

-- A line of four words with the key that it had and a sound cell.
rising_same : (x y : List ℕ) → get_or y 0 0 ≡ get_or x 0 0 → (p : Option (List ℕ)) → rising_cause p y ≡ rising_cause p x
rising_same x y e None = refl
rising_same x y e (Some z) = rw e refl

keyed_none : (x y : List ℕ) → get_or y 0 0 ≡ get_or x 0 0 → cell_cause y 1 ≡ None → (p : Option (List ℕ)) → keyed_cause p x ≡ None
    → keyed_cause p y ≡ None
keyed_none x y e sound p none =
    let word = cause_in (key_in (get_or x 0 0)) in
    let key = both_none word _ none in
    let rest = both_none (cell_cause x 1) _ key.1 in
    rw (e, key.0, sound) (rising_same x y e p ∙ rest.1)

-- A sound cell written into line i of n.
module _ (w d n i a b c : ℕ) (ws : List ℕ) (h : d + 2 < w) (l : i < n) where
  sound_line : cell_cause (three ws (w * i + d) a b c) (w * i + d) ≡ None
      → cell_cause (three (get_or (first_chunks w n ws) i []) d a b c) d ≡ None
  sound_line e =
      let ls = first_chunks w n ws in
      let at = get_or-set_same ls i (three (get_or ls i []) d a b c) [] (omega (arith, length_chunks w n ws)) in
      let is = ap (λ (ks : List (List ℕ)). get_or ks i []) (chunk_three w n i d a b c ws h l) ∙ at in
      ap (λ x. cell_cause x d) (sym is ∙ chunk_at w n i (three ws (w * i + d) a b c) [] l)
      ∙ (cause_line w (three ws (w * i + d) a b c) i d h ∙ e)

-- Lines of three words.
pub bare_kept : (n i a b c : ℕ) (ws : List ℕ) → i < n → cell_cause (three ws (3 * i) a b c) (3 * i) ≡ None
    → first_fault bare_cause 0 None (first_chunks 3 n ws) ≡ None → first_fault bare_cause 0 None (first_chunks 3 n (three ws (3 * i) a b c)) ≡ None
bare_kept n i a b c ws l sound e =
    let zero_more : 3 * i + 0 ≡ 3 * i = omega arith in
    let s = rw zero_more at (sound_line 3 0 n i a b c ws (omega arith) l) in
    let k = rw zero_more at (chunk_three 3 n i 0 a b c ws (omega arith) l) in
    rw k (still_none bare_cause _ 0 i None (first_chunks 3 n ws) (omega (arith, length_chunks 3 n ws)) e (λ p q. s sound) (λ z. refl))

-- Lines of four words.
pub keyed_kept : (n i a b c : ℕ) (ws : List ℕ) → i < n → cell_cause (three ws (4 * i + 1) a b c) (4 * i + 1) ≡ None
    → first_fault keyed_cause 0 None (first_chunks 4 n ws) ≡ None → first_fault keyed_cause 0 None (first_chunks 4 n (three ws (4 * i + 1) a b c)) ≡ None
keyed_kept n i a b c ws l sound e =
    let ls = first_chunks 4 n ws in
    let x = get_or ls i [] in
    let s = sound_line 4 1 n i a b c ws (omega arith) l sound in
    let key = three_other x 1 a b c 0 (λ z. omega arith) (λ z. omega arith) (λ z. omega arith) in
    rw (chunk_three 4 n i 1 a b c ws (omega arith) l)
    (still_none keyed_cause _ 0 i None ls (omega (arith, length_chunks 4 n ws)) e (keyed_none x (three x 1 a b c) key s)
    (λ z. rw key refl))
