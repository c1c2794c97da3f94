-- What writing a cell's three words leaves in memory.
use Rattle.std.proofs.Common.{◌≡◌, ℕ, zero, suc, ◌+◌, ◌<◌, ◌≢◌, List, [], ◌∷◌, ◌++◌, length, get_or, set, take, drop, refl, ap, arith, length-set}
use Rattle.std.proofs.Common.{get_or-set_other}

-- Three words in a row.
abbrev pub three : List ℕ → ℕ → ℕ → ℕ → ℕ → List ℕ
three ws p a b c = set (set (set ws p a) (p + 1) b) (p + 2) c

pub length_three : (ws : List ℕ) (p a b c : ℕ) → length (three ws p a b c) ≡ length ws
length_three ws p a b c = simp length-set

-- Three words in the place of those from an index on.
pub three_spliced : (ws : List ℕ) (p k a b c : ℕ) → k ≡ 3 → p + 2 < length ws
    → take p ws ++ ((a ∷ b ∷ c ∷ []) ++ drop k (drop p ws)) ≡ three ws p a b c
three_spliced [] p k a b c e h = absurd (omega arith)
three_spliced (v ∷ []) zero k a b c e h = absurd (omega arith)
three_spliced (v ∷ w ∷ []) zero k a b c e h = absurd (omega arith)
three_spliced (v ∷ w ∷ x ∷ ws) zero k a b c e h = rw e refl
three_spliced (v ∷ ws) (suc p) k a b c e h =
    let one : suc p + 1 ≡ suc (p + 1) = omega arith in
    let two : suc p + 2 ≡ suc (p + 2) = omega arith in
    rw (one, two) (ap (λ xs. v ∷ xs) (three_spliced ws p k a b c e (omega arith)))

-- The other words stay.
pub three_other : (ws : List ℕ) (p a b c q : ℕ) → q ≢ p → q ≢ p + 1 → q ≢ p + 2
    → get_or (three ws p a b c) q 0 ≡ get_or ws q 0
three_other ws p a b c q n m o = rw (get_or-set_other, get_or-set_other, get_or-set_other)
