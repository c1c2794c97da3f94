-- A list written over the front of another, element by element.
use Rattle.std.proofs.Common.{◌≡◌, ℕ, ◌+◌, ◌<◌, ◌≤◌, List, [], ◌∷◌, ◌++◌, length, get_or, set, take, drop, min, sym, ap, ap₂, ◌∙◌, ⊎_elim, refl, arith}
use Rattle.std.proofs.lemmas.Bool.{cases_lt}
use Rattle.std.proofs.lemmas.List.{append-nil, drop-drop, drop-set-lt, drop_all, take-append-drop, take_all, take_more, take_more_set}

-- The first i elements of vs are those of xs, and what lies behind them is as in ws.
pub record FilledTo (i : ℕ) (xs ws vs : List ℕ) : Type 0 where
  pub front : take i vs ≡ take i xs
  pub behind : drop i vs ≡ drop i ws

module _ (xs ws : List ℕ) where
  pub filled_none : FilledTo 0 xs ws ws
  filled_none = record { front = refl; behind = refl }

  -- One element more.
  pub filled_more : (i : ℕ) (vs : List ℕ) (x : ℕ) → i < length xs → i < length vs → get_or xs i 0 ≡ x → FilledTo i xs ws vs
      → FilledTo (i + 1) xs ws (set vs i x)
  filled_more i vs x h k e f = record {
    front = take_more_set vs i x k ∙ (ap₂ (λ (a : List ℕ) (b : ℕ). a ++ b ∷ []) f.front (sym e) ∙ sym (take_more xs i 0 h));
    behind = drop-set-lt (i + 1) vs i x (omega arith) ∙ (sym (drop-drop 1 i vs) ∙ (ap (drop 1) f.behind ∙ drop-drop 1 i ws));
  }

  -- As many as there is room for.
  pub filled_all : (i : ℕ) (vs : List ℕ) → i ≡ min (length xs) (length ws) → length vs ≡ length ws → FilledTo i xs ws vs
      → vs ≡ take (length ws) xs ++ drop (length xs) ws
  filled_all i vs e l f =
      let parts = sym (take-append-drop i vs) ∙ ap₂ (λ (a b : List ℕ). a ++ b) f.front f.behind in
      ⊎_elim
      (λ (h : length ws < length xs).
      let is : i ≡ length ws = omega arith in
      parts ∙ ap₂ (λ (a b : List ℕ). a ++ b) (ap (λ n. take n xs) is)
      (drop_all i ws (omega arith) ∙ sym (drop_all (length xs) ws (omega arith))))
      (λ (h : length xs ≤ length ws).
      let is : i ≡ length xs = omega arith in
      let all = take_all (length ws) xs h in
      parts ∙ ap₂ (λ (a b : List ℕ). a ++ b) (take_all i xs (omega arith) ∙ sym all) (ap (λ n. drop n ws) is))
      (cases_lt (length ws) (length xs))

  -- Exactly as many as there is room for.
  pub filled_whole : length xs ≡ length ws → take (length ws) xs ++ drop (length xs) ws ≡ xs
  filled_whole e =
      ap₂ (λ (a b : List ℕ). a ++ b) (take_all (length ws) xs (omega arith)) (drop_all (length xs) ws (omega arith)) ∙ append-nil xs
