-- Bytes that a writer is given, one after another.
--   appends_nothing   what it holds is followed by nothing
--   appends_then      by some bytes and then by others
use Rattle.std.proofs.Common.{ℕ, List, [], ◌++◌, Some, None, Option, sym, ap, ◌∙◌, append_assoc, append-nil}
use Rattle.std.specs.Io.KnownBytes.{Appends}

pub appends_nothing : (o : Option (List ℕ)) → Appends o o []
appends_nothing None = tt
appends_nothing (Some xs) = sym (append-nil xs)

pub appends_then : (o p q : Option (List ℕ)) (ls bs : List ℕ) → Appends o p ls → Appends p q bs → Appends o q (ls ++ bs)
appends_then None p q ls bs h i = tt
appends_then (Some xs) None q ls bs h i = absurd h
appends_then (Some xs) (Some ys) None ls bs h i = absurd i
appends_then (Some xs) (Some ys) (Some zs) ls bs h i = i ∙ (ap (λ ws. ws ++ bs) h ∙ append_assoc xs ls bs)
