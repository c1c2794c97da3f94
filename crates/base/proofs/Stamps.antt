-- A stamp is known by its number.
use Rattle.std.proofs.Common.{◌≡◌, ℕ, ◌≤◌, ap, subst, arith}
use native.Mathlib.Bridge.{le_prop}
use Rattle.base.specs.declared.stamp.Stamp.{Stamp}
use Rattle.base.specs.declared.stamp.TheConstants.{TOP}
use Rattle.base.specs.Stamps.{stamp}

-- Two stamps of one number are the same: that it is at most TOP has one proof.
pub same_stamp : (a b : Stamp) → a.number ≡ b.number → a ≡ b
same_stamp a b e =
    let made : (n : ℕ) → n ≤ TOP → Stamp = λ n p. record { number = n; within = p } in
    let P : ℕ → Type 0 = λ n. (p : n ≤ TOP) → a ≡ made n p in
    subst P e (λ p. ap (made a.number) (le_prop a.within p)) b.within

-- A stamp of the number n is the stamp n.
pub stamp_is : (n : ℕ) (a : Stamp) → a.number ≡ n → a ≡ stamp n
stamp_is n a e = same_stamp a (stamp n) (let h = a.within in omega arith)
