-- What goes by whether two pairs of numbers are the same: a transaction and a ground, or a transaction and a key.
--   by_test                   what holds by a test where it passes and where it fails
--   by_key                    what holds at one key, and at every other, holds at each
--   and_true                  a test that passes last adds nothing
--   own_key                   a key is its own
--   at_key, off_key           the value at one key, and at all others
--   at_key_too, off_key_too   the same, where the test goes on with one that passes
--   eqb_turned                two numbers differ either way round
use Rattle.std.proofs.Common.{◌≡◌, ℕ, Bool, true, false, cond, ◌&&◌, eqb, refl, sym, ap, ◌∙◌, subst}
use Rattle.std.proofs.lemmas.Bool.{and_parts, eqb-true, eq-eqb, ne_eqb, true≢false}

-- What holds by a test where it passes and where it fails.
pub by_test : (R : Bool → Type 0) (b : Bool) → (b ≡ true → R true) → (b ≡ false → R false) → R b
by_test R true passes fails = passes refl
by_test R false passes fails = fails refl

-- What holds at one key, and at every other, holds at each.
pub by_key : (R : ℕ → ℕ → Bool → Type 0) (t g u j : ℕ) → R t g true → ((eqb t u && eqb g j) ≡ false → R u j false)
    → R u j (eqb t u && eqb g j)
by_key R t g u j here there =
    by_test (R u j) (eqb t u && eqb g j)
    (λ e. let p = and_parts (eqb t u) _ e in
    subst (λ v. R v j true) (eqb-true _ _ p.0) (subst (λ i. R t i true) (eqb-true _ _ p.1) here)) there

-- A test that passes last adds nothing.
pub and_true : (x y : Bool) → (x && (y && true)) ≡ (x && y)
and_true true true = refl
and_true true false = refl
and_true false y = refl

-- A key is its own.
pub own_key : (t g : ℕ) → (eqb t t && eqb g g) ≡ true
own_key t g = rw (eq-eqb t t refl, eq-eqb g g refl) refl

-- The value at one key.
pub at_key : {A : Type 0} (t k : ℕ) (x y : A) → cond (eqb t t && eqb k k) x y ≡ x
at_key t k x y = ap (λ b. cond b x y) (own_key t k)

-- And at all others.
pub off_key : {A : Type 0} (t k u j : ℕ) (x y : A) → (eqb t u && eqb k j) ≡ false → cond (eqb t u && eqb k j) x y ≡ y
off_key t k u j x y n = ap (λ b. cond b x y) n

-- The value at one key, where the test goes on with one that passes.
pub at_key_too : {A : Type 0} (t k : ℕ) (x y : A) → cond (eqb t t && (eqb k k && true)) x y ≡ x
at_key_too t k x y = ap (λ b. cond b x y) (and_true (eqb t t) (eqb k k) ∙ own_key t k)

-- And at all others.
pub off_key_too : {A : Type 0} (t k u j : ℕ) (x y : A) → (eqb t u && eqb k j) ≡ false → cond (eqb t u && (eqb k j && true)) x y ≡ y
off_key_too t k u j x y n = ap (λ b. cond b x y) (and_true (eqb t u) (eqb k j) ∙ n)

-- Two numbers differ either way round.
pub eqb_turned : (a b : ℕ) → eqb a b ≡ false → eqb b a ≡ false
eqb_turned a b e = ne_eqb b a (λ i. true≢false (sym (eq-eqb a b (sym i)) ∙ e))
