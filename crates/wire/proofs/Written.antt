-- Reading and writing messages undo each other.
use Rattle.std.proofs.Common.{◌≡◌, ℕ, ◌+◌, ◌*◌, ◌/◌, ◌^◌, ◌<◌, ◌≤◌, true, cond, ◌&&◌, eqb, leb, ltb, List, [], ◌∷◌, ◌++◌, length, take, Some, None, Option, sym, refl, ap}
use Rattle.std.proofs.Common.{◌∙◌, inl, inr, one-add, arith, length-append, length-take}
use lib.Seq.{take-append_seam}
use Rattle.std.proofs.lemmas.Bool.{cases_Bool, and_parts, and_from, eqb-true, le-leb, leb-true, lt-ltb, ltb-true, cond-true, cond-false}
use Rattle.base.specs.declared.kind.Kind.{Kind}
use Rattle.base.specs.declared.kind.Kind.TheVariants as kind
use Rattle.wire.specs.Messages.{Content, Begin, Read, Prewrite, Validate, Decide, Withdraw, Settle, are_pairs, is_pair_count, bare_message, prewrite_message, message_by_kind}
use Rattle.wire.specs.Messages.{first_message, head_word, head_of, pairs_of, has_words, message_words, ReadsBack, WritesBack}
use Rattle.base.specs.Kinds.{kind_number}
use Rattle.wire.specs.declared.message.TheConstants.{MAX_TRANSACTION}
use Rattle.wire.specs.Words.{kind_of, middle_of, low_of}
use Rattle.wire.proofs.Chunks.{pairs_even}

-- A message and how many words it takes.
abbrev found : Content → ℕ → Option (Content × ℕ)
found m n = Some (m, n)

-- The parts of a head word are those it was made of.
pub headed_by : (k : Kind) (t arg : ℕ) (ws : List ℕ) → t ≤ MAX_TRANSACTION → arg < 2 ^ 16
    → first_message (head_word k t arg ∷ ws) ≡ message_by_kind (kind_number k) t arg ws
headed_by k t arg ws few low =
    let a : kind_of (head_word k t arg) ≡ kind_number k = omega arith in
    let b : middle_of (head_word k t arg) ≡ t = omega arith in
    let c : low_of (head_word k t arg) ≡ arg = omega arith in
    rw (a, b, c) refl

-- A prewrite's pairs are the words that follow its head.
pub prewritten_back : (t : ℕ) (ps rest : List ℕ) → is_pair_count (length ps / 2) ≡ true → are_pairs ps ≡ true
    → prewrite_message t (length ps / 2) (ps ++ rest) ≡ Some (Prewrite t ps, 1 + length ps)
prewritten_back t ps rest c g =
    let even = pairs_even ps g in
    let front : take (length ps) (ps ++ rest) ≡ ps = take-append_seam ps rest in
    let enough : leb (length ps) (length (ps ++ rest)) ≡ true = le-leb _ _ (simp length-append (omega arith)) in
    rw (even, front, c, enough, g) refl

-- What a message's words say is that message.
pub spoken : (m : Content) (rest : List ℕ) → has_words m ≡ true
    → first_message (head_of m ∷ (pairs_of m ++ rest)) ≡ Some (m, 1 + length (pairs_of m))
spoken (Begin t) rest h = headed_by kind.Begin t 0 rest (leb-true _ _ h) (omega arith)
spoken (Read t k) rest h = let p = and_parts _ _ h in headed_by kind.Read t k rest (leb-true _ _ p.0) (ltb-true _ _ p.1)
spoken (Prewrite t ps) rest h =
    let p = and_parts (leb t MAX_TRANSACTION) _ h in
    let q = and_parts (is_pair_count (length ps / 2)) _ p.1 in
    let few = leb-true _ _ (and_parts (leb 1 (length ps / 2)) _ q.0).1 in
    headed_by kind.Prewrite t (length ps / 2) (ps ++ rest) (leb-true _ _ p.0) (omega arith) ∙ prewritten_back t ps rest q.0 q.1
spoken (Validate t g) rest h = let p = and_parts _ _ h in headed_by kind.Validate t g rest (leb-true _ _ p.0) (ltb-true _ _ p.1)
spoken (Decide t) rest h = headed_by kind.Decide t 0 rest (leb-true _ _ h) (omega arith)
spoken (Withdraw t) rest h = headed_by kind.Withdraw t 0 rest (leb-true _ _ h) (omega arith)
spoken (Settle t g) rest h = let p = and_parts _ _ h in headed_by kind.Settle t g rest (leb-true _ _ p.0) (ltb-true _ _ p.1)

pub reads_back : ReadsBack
reads_back m ws rest e =
    elim (cases_Bool (has_words m)) [
      | inl h ↦
          let w = cond-true _ (Some (head_of m ∷ pairs_of m)) None h in
          let s : ws ≡ head_of m ∷ pairs_of m = cc in
          rw s (spoken m rest h ∙ ap (found m) (one-add _))
      | inr h ↦ let w = cond-false _ (Some (head_of m ∷ pairs_of m)) None h in cc
    ]

-- A test by number chose x or went on to y: what follows of each follows of the test.
chosen : {A G : Type 0} (k i : ℕ) (x y z : A) → cond (eqb k i) x y ≡ z → (k ≡ i → x ≡ z → G) → (y ≡ z → G) → G
chosen k i x y z e here on =
    elim (cases_Bool (eqb k i)) [
      | inl t ↦ here (eqb-true k i t) (sym (cond-true _ x y t) ∙ e)
      | inr t ↦ on (sym (cond-false _ x y t) ∙ e)
    ]

-- What is found has one message and one count.
same_found : (m m₁ : Content) (n n₁ : ℕ) → found m₁ n₁ ≡ found m n → (m ≡ m₁) × (n ≡ n₁)
same_found m m₁ n n₁ e = grind arith

-- A head that was read as a message of one word is what writing makes of it.
one_word : (m : Content) (n : ℕ) (m₁ : Content) (w : ℕ) (ws : List ℕ) → has_words m₁ ≡ true → head_of m₁ ≡ w → pairs_of m₁ ≡ []
    → found m₁ 1 ≡ found m n → message_words m ≡ Some (take n (w ∷ ws))
one_word m n m₁ w ws s h p e =
    let same = same_found m m₁ n 1 e in
    rw (same.0, same.1, s, h, p) refl

module _ (t arg : ℕ) (ws : List ℕ) (m : Content) (n : ℕ) (few : t ≤ MAX_TRANSACTION) (low : arg < 2 ^ 16) where
  -- The same of a message without an argument.
  bare_back : (k : Kind) (m₁ : Content) → has_words m₁ ≡ true → head_of m₁ ≡ head_word k t 0 → pairs_of m₁ ≡ []
      → bare_message m₁ arg ≡ found m n → message_words m ≡ Some (take n (head_word k t arg ∷ ws))
  bare_back k m₁ s h p e =
      chosen arg 0 (found m₁ 1) None (found m n) e (λ a q. rw a (one_word m n m₁ (head_word k t 0) ws s h p q)) (λ q. cc)

  -- The same of a prewrite.
  prewrite_back : prewrite_message t arg ws ≡ found m n → message_words m ≡ Some (take n (head_word kind.Prewrite t arg ∷ ws))
  prewrite_back e =
      let ps = take (2 * arg) ws in
      let good = is_pair_count arg && (leb (2 * arg) (length ws) && are_pairs ps) in
      elim (cases_Bool good) [
        | inl g ↦
            let p = and_parts (is_pair_count arg) _ g in
            let q = and_parts (leb (2 * arg) (length ws)) _ p.1 in
            let same = same_found m (Prewrite t ps) n (1 + 2 * arg) (sym (cond-true good _ _ g) ∙ e) in
            let half : length ps / 2 ≡ arg = omega (arith, length-take (2 * arg) ws, leb-true _ _ q.0) in
            rw (same.0, same.1, half, le-leb t MAX_TRANSACTION few, p.0, q.1, one-add) refl
        | inr g ↦ let w = cond-false good (found (Prewrite t ps) (1 + 2 * arg)) None g in cc
      ]

  -- A head whose message was found is what writing makes of that message.
  by_kind : (k : ℕ) → message_by_kind k t arg ws ≡ found m n → message_words m ≡ Some (take n ((k * 268435456 + (t * 65536 + arg)) ∷ ws))
  by_kind k e₁ =
      let ok = le-leb t MAX_TRANSACTION few in
      let with-arg = and_from (leb t MAX_TRANSACTION) (ltb arg (2 ^ 16)) ok (lt-ltb arg (2 ^ 16) low) in
      chosen k 1 _ _ _ e₁ (λ a q. rw a (bare_back kind.Begin (Begin t) ok refl refl q)) (λ e₂.
      chosen k 2 _ _ _ e₂ (λ a q. rw a (one_word m n (Read t arg) _ ws with-arg refl refl q)) (λ e₃.
      chosen k 3 _ _ _ e₃ (λ a q. rw a (prewrite_back q)) (λ e₄.
      chosen k 4 _ _ _ e₄ (λ a q. rw a (one_word m n (Validate t arg) _ ws with-arg refl refl q)) (λ e₅.
      chosen k 5 _ _ _ e₅ (λ a q. rw a (bare_back kind.Decide (Decide t) ok refl refl q)) (λ e₆.
      chosen k 6 _ _ _ e₆ (λ a q. rw a (bare_back kind.Withdraw (Withdraw t) ok refl refl q)) (λ e₇.
      chosen k 7 _ _ _ e₇ (λ a q. rw a (one_word m n (Settle t arg) _ ws with-arg refl refl q)) (λ e₈.
      cc)))))))

pub writes_back : WritesBack
writes_back [] m n e = cc
writes_back (w ∷ ws) m n e =
    let whole : kind_of w * 268435456 + (middle_of w * 65536 + low_of w) ≡ w = omega arith in
    rw whole at (by_kind (middle_of w) (low_of w) ws m n (omega arith) (omega arith) (kind_of w) e)
