-- Memory cut into lines of w words.
use Rattle.std.proofs.Common.{◌≡◌, ℕ, zero, suc, ◌+◌, ◌*◌, ◌<◌, List, [], ◌∷◌, length, get_or, set, take, drop, refl, ap, ap₂, sym, ◌∙◌, mul-zero, zero-add, arith}
use Rattle.std.proofs.Math.Nat.{mul-suc}
use Rattle.std.proofs.Math.Seq.{take-set-lt}
use Rattle.std.proofs.lemmas.List.{drop-drop, drop-set-add, drop-set-lt, get_or-drop, get_or-set_same, get_or-take, set-set, take-set-le}
use Rattle.std.specs.Simd.{first_chunks}
use Rattle.image.proofs.Cells.{three}

-- The words of line i.
abbrev pub line : ℕ → List ℕ → ℕ → List ℕ
line w ws i = take w (drop (w * i) ws)

-- Word d of a line.
pub line_word : (w : ℕ) (ws : List ℕ) (i d : ℕ) → d < w → get_or (line w ws i) d 0 ≡ get_or ws (w * i + d) 0
line_word w ws i d h = get_or-take w (drop (w * i) ws) d 0 h ∙ get_or-drop (w * i) ws d 0

pub length_chunks : (w n : ℕ) (ws : List ℕ) → length (first_chunks w n ws) ≡ n
length_chunks w zero ws = refl
length_chunks w (suc n) ws = let e = length_chunks w n (drop w ws) in omega arith

-- A line behind the first is one of the memory behind the first.
behind : (w i : ℕ) (ws : List ℕ) → line w (drop w ws) i ≡ line w ws (suc i)
behind w i ws =
    let e : w + w * i ≡ w * suc i = rw mul-suc (omega arith) in
    ap (take w) (drop-drop (w * i) w ws ∙ ap (λ n. drop n ws) e)

-- Line j of memory.
pub chunk_at : (w n j : ℕ) (ws d : List ℕ) → j < n → get_or (first_chunks w n ws) j d ≡ line w ws j
chunk_at w zero j ws d h = absurd (omega arith)
chunk_at w (suc n) zero ws d h = ap (λ m. take w (drop m ws)) (sym (mul-zero w))
chunk_at w (suc n) (suc j) ws d h = chunk_at w n j (drop w ws) d (omega arith) ∙ behind w j ws

-- A word that is written into a line leaves the others.
pub chunk_set : (w n i d v : ℕ) (ws : List ℕ) → d < w → i < n
    → first_chunks w n (set ws (w * i + d) v) ≡ set (first_chunks w n ws) i (set (get_or (first_chunks w n ws) i []) d v)
chunk_set w zero i d v ws h l = absurd (omega arith)
chunk_set w (suc n) zero d v ws h l =
    let e : w * zero + d ≡ d = rw mul-zero (zero-add d) in
    rw e (ap₂ (λ (x : List ℕ) (xs : List (List ℕ)). x ∷ xs) (take-set-lt w ws d v h) (ap (first_chunks w n) (drop-set-lt w ws d v h)))
chunk_set w (suc n) (suc i) d v ws h l =
    let e : w * suc i + d ≡ w + (w * i + d) = rw mul-suc (omega arith) in
    rw e (ap₂ (λ (x : List ℕ) (xs : List (List ℕ)). x ∷ xs) (take-set-le w ws (w + (w * i + d)) v (omega arith))
    (ap (first_chunks w n) (drop-set-add w ws (w * i + d) v) ∙ chunk_set w n i d v (drop w ws) h (omega arith)))

-- What is written into a line that was written before.
again : (ls cs ds : List (List ℕ)) (x : List ℕ) (i e v : ℕ) → i < length ls → cs ≡ set ls i x
    → ds ≡ set cs i (set (get_or cs i []) e v) → ds ≡ set ls i (set x e v)
again ls cs ds x i e v h is written =
    let one = ap (λ (ks : List (List ℕ)). set ks i (set (get_or ks i []) e v)) is in
    let two = ap (λ (y : List ℕ). set (set ls i x) i (set y e v)) (get_or-set_same ls i x [] h) in
    written ∙ (one ∙ (two ∙ set-set ls i x (set x e v)))

-- Three words in a row that are written into a line.
pub chunk_three : (w n i d a b c : ℕ) (ws : List ℕ) → d + 2 < w → i < n
    → first_chunks w n (three ws (w * i + d) a b c) ≡ set (first_chunks w n ws) i (three (get_or (first_chunks w n ws) i []) d a b c)
chunk_three w n i d a b c ws h l =
    let p = w * i + d in
    let ls = first_chunks w n ws in
    let long : i < length ls = omega (arith, length_chunks w n ws) in
    let first = chunk_set w n i d a ws (omega arith) l in
    let second = chunk_set w n i (d + 1) b (set ws p a) (omega arith) l in
    let third = chunk_set w n i (d + 2) c (set (set ws p a) (p + 1) b) h l in
    let q : w * i + (d + 1) ≡ p + 1 = omega arith in
    let r : w * i + (d + 2) ≡ p + 2 = omega arith in
    let two = again ls _ _ _ i (d + 1) b long first (ap (λ m. first_chunks w n (set (set ws p a) m b)) (sym q) ∙ second) in
    again ls _ _ _ i (d + 2) c long two (ap (λ m. first_chunks w n (set (set (set ws p a) (p + 1) b) m c)) (sym r) ∙ third)
