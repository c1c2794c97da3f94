-- What a writer holds after lines were printed to it.
use Rattle.std.proofs.Common.{◌≡◌, ℕ, ◌%◌, Bool, true, false, List, [], ◌∷◌, ◌++◌, length, Ok, Err, Some, None, Option, Result, sym, ap, ◌∙◌, subst, append_assoc}
use Rattle.std.proofs.lemmas.List.{append-nil}
use Rattle.std.specs.Io.KnownBytes.{Appends}
use Rattle.std.specs.List.{concat}
use Rattle.std.specs.Prelude.{IfOk, IfSome, MatchOption, OnOk}
use Rattle.std.specs.declared.io.Error.{Error}
use Rattle.wire.specs.Bytes.{words_in}
use Rattle.image.specs.declared.fault.Fault.{Fault}
use Rattle.image.specs.Sparses.{sparse_cells}
use Rattle.survey.specs.Printing.{Prints, PrintsImage, none, more, bytes_fault, plots_lines, plots_text}
use Rattle.survey.specs.Texts.{refusal_line}

-- How a line goes to a writer that holds some bytes.
abbrev pub writes : {W : Type 0} → (W → Option (List ℕ)) → W → List ℕ → Result Unit Error → W → Type 0
writes holds s line r t = OnOk r (Appends (holds s) (holds t) line)

appends_none : (a : Option (List ℕ)) → Appends a a []
appends_none None = tt
appends_none (Some xs) = sym (append-nil xs)

appends_more : (a b d : Option (List ℕ)) (x y : List ℕ) → Appends a b x → Appends b d y → Appends a d (x ++ y)
appends_more None b d x y p q = tt
appends_more (Some us) None d x y p q = absurd p
appends_more (Some us) (Some vs) None x y p q = absurd q
appends_more (Some us) (Some vs) (Some zs) x y p q = q ∙ (ap (λ ls. ls ++ y) p ∙ append_assoc us x y)

-- Lines that were all taken lie one after another in what the writer holds.
pub all_written : {W : Type 0} (holds : W → Option (List ℕ)) (s t : W) (xs : List (List ℕ)) → Prints (writes holds) s xs None t
    → Appends (holds s) (holds t) (concat xs)
all_written holds s t [] (none _) = appends_none (holds s)
all_written holds s t (x ∷ xs) (more _ r _ _ _ _ p ps) =
    appends_more (holds s) (holds r) (holds t) x (concat xs) p (all_written holds r t xs ps)

-- What is known of two writers after an image was printed, where the bytes of the image are known.
module _ {W E : Type 0} (holds : W → Option (List ℕ)) (keeps : E → Option (List ℕ)) (out out' : W) (errors errors' : E) where
  abbrev pub Told : Bool → List ℕ → Type 0
  Told good bs =
      MatchOption (bytes_fault bs)
      ((good ≡ true) × Appends (holds out) (holds out') (plots_text bs) × (errors' ≡ errors))
      (λ f. (good ≡ false) × Appends (keeps errors) (keeps errors') (refusal_line f) × (out' ≡ out))

  told : (o : Option Fault) (good : Bool) (ls : List (List ℕ))
      → MatchOption o
      (Prints (writes holds) out ls None out' × (errors' ≡ errors) × (good ≡ true))
      (λ f. Prints (writes keeps) errors (refusal_line f ∷ []) None errors' × (out' ≡ out) × (good ≡ false))
      → MatchOption o
      ((good ≡ true) × Appends (holds out) (holds out') (concat ls) × (errors' ≡ errors))
      (λ f. (good ≡ false) × Appends (keeps errors) (keeps errors') (refusal_line f) × (out' ≡ out))
  told None good ls p = (p.2, all_written holds out out' ls p.0, p.1)
  told (Some f) good ls p =
      (p.2, subst (Appends (keeps errors) (keeps errors')) (append-nil (refusal_line f)) (all_written keeps errors errors' (refusal_line f ∷ []) p.0), p.1)

  pub all_told : (known : Option (List ℕ)) (bytes ws : List ℕ) (n : ℕ) (r : Result Bool Error)
      → IfSome known (λ bs. bytes ≡ bs) → ws ≡ words_in bytes → n ≡ length bytes % 4
      → PrintsImage (writes holds) (writes keeps) ws n out errors r out' errors' → IfOk r (λ good. IfSome known (λ bs. Told good bs))
  all_told known bytes ws n (Err e) k w l p = tt
  all_told None bytes ws n (Ok good) k w l p = tt
  all_told (Some bs) bytes ws n (Ok good) k w l p =
      let image = λ (vs : List ℕ) (i : ℕ). PrintsImage (writes holds) (writes keeps) vs i out errors (Ok good) out' errors' in
      let at = subst (λ (bytes' : List ℕ). image (words_in bytes') (length bytes' % 4)) k (subst (λ i. image (words_in bytes) i) l (subst (λ vs. image vs n) w p)) in
      told (bytes_fault bs) good (plots_lines (sparse_cells (words_in bs))) at
