-- Where notes say nothing of two transactions.
--   none_named                where no note names the transaction, nothing is said
--   of_elsewhere, of_itself   of a row of another ground, or of the transaction's own, they say nothing
use Rattle.std.proofs.Common.{◌≡◌, ℕ, Bool, true, false, ◌||◌, eqb, List, [], ◌∷◌, None, refl, sym, ap, ◌∙◌, arith}
use Rattle.std.specs.List.{list_any}
use Rattle.std.proofs.lemmas.Bool.{true≢false}
use Rattle.std.proofs.lemmas.Bool.Decides.{nat_tests}
use Rattle.lines.specs.declared.note.Note.{Note}
use Rattle.lines.specs.declared.row.Row.{Row}
use Rattle.register.specs.Relations.{said, unrelated, with_side, relation_of}
use Rattle.register.specs.Slots.{names}

module _ (t g : ℕ) (r : Row) where
  -- Nothing is said where each note says nothing.
  silent : ((n : Note) → said t g r n ≡ None) → (notes : List Note) → unrelated ≡ relation_of notes t g r
  silent e [] = refl
  silent e (n ∷ ns) = let later = silent e ns in rw (e n) later

  pub of_elsewhere : eqb r.ground g ≡ false → (notes : List Note) → unrelated ≡ relation_of notes t g r
  of_elsewhere e = silent nothing
    where
      nothing : (n : Note) → said t g r n ≡ None
      nothing n = grind (arith, nat_tests)

  pub of_itself : eqb r.transaction t ≡ true → (notes : List Note) → unrelated ≡ relation_of notes t g r
  of_itself e = silent nothing
    where
      nothing : (n : Note) → said t g r n ≡ None
      nothing n = grind (arith, nat_tests)

-- Where no note names the transaction.
pub none_named : (notes : List Note) (t g : ℕ) → list_any (names t) notes ≡ false → (r : Row) → unrelated ≡ relation_of notes t g r
none_named [] t g none r = refl
none_named (n ∷ ns) t g none r = go (names t n) refl none (λ e. none_named ns t g e r)
  where
    unnamed : names t n ≡ false → said t g r n ≡ None
    unnamed e = grind (arith, nat_tests)

    go : (b : Bool) → names t n ≡ b → (b || list_any (names t) ns) ≡ false → (list_any (names t) ns ≡ false → unrelated ≡ relation_of ns t g r)
        → unrelated ≡ relation_of (n ∷ ns) t g r
    go true e f later = absurd (true≢false f)
    go false e f later = later f ∙ sym (ap (λ s. with_side s (relation_of ns t g r)) (unnamed e))
