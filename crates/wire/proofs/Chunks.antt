-- Pairs by chunks of two words.
use Rattle.std.proofs.Common.{◌≡◌, ℕ, suc, zero, ◌+◌, ◌*◌, ◌/◌, ◌%◌, ◌<◌, ◌≤◌, Bool, true, false, inl, inr, ◌&&◌, List, [], ◌∷◌, length, get_or, is_some}
use Rattle.std.proofs.Common.{Option, ℤ, refl, ap, arith}
use Rattle.std.specs.List.{list_all}
use Rattle.std.specs.Simd.{first_chunks}
use Rattle.std.proofs.lemmas.Bool.{cases_Bool, and_parts}
use Rattle.wire.specs.Messages.{pair_in, are_pairs}

-- The pair of two words, and whether they are one.
abbrev pub chunk_pair : List ℕ → Option (ℕ × ℤ)
chunk_pair p = pair_in (get_or p 0 0) (get_or p 1 0)

abbrev pub pair_good : List ℕ → Bool
pair_good p = is_some (chunk_pair p)

-- An even number of words are pairs where each two of them are.
pub even_pairs : (ws : List ℕ) → length ws % 2 ≡ 0 → list_all pair_good (first_chunks 2 (length ws / 2) ws) ≡ are_pairs ws
even_pairs [] h = refl
even_pairs (k ∷ []) h = absurd (omega arith)
even_pairs (k ∷ v ∷ ws) h =
    let n : length (k ∷ v ∷ ws) / 2 ≡ suc (length ws / 2) = omega arith in
    rw n (ap (λ b. pair_good (k ∷ v ∷ []) && b) (even_pairs ws (omega arith)))

-- Pairs are an even number of words.
pub pairs_even : (ws : List ℕ) → are_pairs ws ≡ true → 2 * (length ws / 2) ≡ length ws
pairs_even [] h = refl
pairs_even (k ∷ []) h = cc
pairs_even (k ∷ v ∷ ws) h =
    let p = and_parts (is_some (pair_in k v)) (are_pairs ws) h in
    let e = pairs_even ws p.1 in
    omega arith

-- An odd number of words are no pairs.
pub odd_pairs : (ws : List ℕ) → 0 < length ws % 2 → are_pairs ws ≡ false
odd_pairs ws h =
    elim (cases_Bool (are_pairs ws)) [ inl g ↦ let e = pairs_even ws g in absurd (omega arith) | inr g ↦ g ]

-- The pair in the chunk number i.
pub pair_in_chunk : (i k : ℕ) (ws : List ℕ) → i < k → 2 * k ≤ length ws
    → chunk_pair (get_or (first_chunks 2 k ws) i []) ≡ pair_in (get_or ws (2 * i) 0) (get_or ws (2 * i + 1) 0)
pair_in_chunk i zero ws h l = absurd (omega arith)
pair_in_chunk i (suc k) [] h l = absurd (omega arith)
pair_in_chunk i (suc k) (a ∷ []) h l = absurd (omega arith)
pair_in_chunk zero (suc k) (a ∷ b ∷ ws) h l = refl
pair_in_chunk (suc i) (suc k) (a ∷ b ∷ ws) h l =
    let e : 2 * suc i ≡ suc (suc (2 * i)) = omega arith in
    let f : 2 * suc i + 1 ≡ suc (suc (2 * i + 1)) = omega arith in
    rw (f, e) (pair_in_chunk i k ws (omega arith) (omega arith))
