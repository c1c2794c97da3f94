use Rattle.std.proofs.Common.{◌≡◌, Bool, List, [], ◌∷◌, reverse, refl, ap, rules, ◌∙◌, arith}
use Rattle.std.proofs.lemmas.Grind.{reverse_onto}
use Rattle.std.proofs.lemmas.Iterator.Adapters.{YieldsList-from_rev_slice}
use Rattle.std.proofs.lemmas.Iterator.Search.{any_from_yields_List}
use Rattle.std.proofs.lemmas.List.Folds.{list_any-append}
use Rattle.std.specs.List.{list_any}
use Rattle.protocol.specs.Checks.{is_write_of}
use Rattle.register.proofs.register.checks.any_write.Goals as goal

-- The order of the lines does not matter.
any_reversed : {X : Type 0} (p : X → Bool) (xs : List X) → list_any p (reverse xs) ≡ list_any p xs
any_reversed p [] = refl
any_reversed p (x ∷ xs) = let later = any_reversed p xs in
    ap (list_any p) (reverse_onto xs x []) ∙ (list_any-append p (reverse xs) (x ∷ []) ∙ grind arith)

pub returns : goal.returns
returns c =
    any_from_yields_List (is_write_of c.args.transaction) _ _ c.any.result c.any.ensures.ran (YieldsList-from_rev_slice c.args.writes.now (search rules)) (search rules)
    ∙ any_reversed (is_write_of c.args.transaction) c.args.writes.now
