-- Printing lines one after another.
use Rattle.std.proofs.Common.{◌≡◌, ℕ, suc, ◌+◌, ◌-◌, ◌*◌, ◌<◌, ◌≤◌, List, [], ◌∷◌, length, map, cond, ltb, Ok, Err, Some, None, Option, Result, refl, ap, ◌∙◌, arith}
use Rattle.std.specs.declared.io.Error.{Error}
use Rattle.std.specs.Prelude.{sum_by}
use Rattle.std.proofs.lemmas.Bool.{cond-false, cond-true, le-ltb, lt-ltb}
use Rattle.std.proofs.lemmas.List.Sums.{sum_by-cons}
use Rattle.base.specs.declared.place.TheConstants.{PLOTS}
use Rattle.store.specs.Stores.{Cells}
use Rattle.survey.specs.declared.listing.Listing.{Listing}
use Rattle.survey.specs.declared.plot.Plot.{Plot}
use Rattle.survey.specs.Plots.{plot_in}
use Rattle.survey.specs.Printing.{Prints, none, more, stopped, fields_in, listing, plots_from}
use Rattle.survey.specs.Texts.{listing_text}

-- The plots from one number on: that one, if it has a field, and then those from the next on.
module _ (m : Cells) (g n : ℕ) (h : n < PLOTS) where
  next : plots_from m g n (PLOTS - n)
      ≡ cond (ltb 0 (fields_in (listing m g n))) (listing m g n ∷ plots_from m g (n + 1) (PLOTS - (n + 1)))
      (plots_from m g (n + 1) (PLOTS - (n + 1)))
  unfolding plots_from
  next = let k : PLOTS - n ≡ suc (PLOTS - (n + 1)) = omega arith in rw k refl

  pub with_fields : 0 < fields_in (listing m g n)
      → plots_from m g n (PLOTS - n) ≡ listing m g n ∷ plots_from m g (n + 1) (PLOTS - (n + 1))
  with_fields f = next ∙ cond-true _ _ _ (lt-ltb 0 (fields_in (listing m g n)) f)

  pub without_fields : fields_in (listing m g n) ≤ 0 → plots_from m g n (PLOTS - n) ≡ plots_from m g (n + 1) (PLOTS - (n + 1))
  without_fields f = next ∙ cond-false _ _ _ (le-ltb 0 (fields_in (listing m g n)) f)

-- The line of a plot that was fetched.
pub line_of : (m : Cells) (g n : ℕ) (p : Plot) → p ≡ plot_in m g n
    → listing_text (record { burial_ground = g; number = n; plot = p }) ≡ listing_text (listing m g n)
line_of m g n p e = rw e refl

-- None are left at the end.
pub past_all : (m : Cells) (g n : ℕ) → PLOTS ≤ n → plots_from m g n (PLOTS - n) ≡ []
unfolding plots_from
past_all m g n h = let k : PLOTS - n ≡ 0 = omega arith in rw k refl

-- Amid the lines of some plots: the printer went from s₀ to s, the plots `rest` are still to come, and those before are counted.
pub record Amid {P : Type 0} (prints : P → List ℕ → Result Unit Error → P → Type 0) (s₀ s : P) (all rest : List Listing) (plots fields n : ℕ)
    : Type 0 where
  pub lines : (o : Option Error) (t : P) → Prints prints s (map listing_text rest) o t → Prints prints s₀ (map listing_text all) o t
  pub plots_so_far : plots + length rest ≡ length all
  pub fields_so_far : fields + sum_by fields_in rest ≡ sum_by fields_in all
  pub few_plots : plots ≤ n
  pub few_fields : fields ≤ 4 * n

module _ {P : Type 0} (prints : P → List ℕ → Result Unit Error → P → Type 0) (s₀ : P) (all : List Listing) where
  pub amid_start : (n : ℕ) → Amid prints s₀ s₀ all all 0 0 n
  amid_start n = record {
    lines = λ o t p. p;
    plots_so_far = omega arith;
    fields_so_far = omega arith;
    few_plots = omega arith;
    few_fields = omega arith;
  }

  module _ (s : P) (rest : List Listing) (plots fields n : ℕ) where
    pub amid_printed : (x : Listing) (t : P) → fields_in x ≤ 4 → prints s (listing_text x) (Ok tt) t
        → Amid prints s₀ s all (x ∷ rest) plots fields n → Amid prints s₀ t all rest (plots + 1) (fields + fields_in x) (n + 1)
    amid_printed x t few p a = record {
      lines = λ o u q. a.lines o u (more s t u (listing_text x) (map listing_text rest) o p q);
      plots_so_far = omega (arith, a.plots_so_far);
      fields_so_far = omega (arith, a.fields_so_far, sum_by-cons fields_in x rest);
      few_plots = omega (arith, a.few_plots);
      few_fields = omega (arith, a.few_fields, few);
    }

    pub amid_passed : Amid prints s₀ s all rest plots fields n → Amid prints s₀ s all rest plots fields (n + 1)
    amid_passed a = record {
      lines = a.lines;
      plots_so_far = a.plots_so_far;
      fields_so_far = a.fields_so_far;
      few_plots = omega (arith, a.few_plots);
      few_fields = omega (arith, a.few_fields);
    }

    pub amid_stopped : (x : Listing) (t : P) (e : Error) → prints s (listing_text x) (Err e) t
        → Amid prints s₀ s all (x ∷ rest) plots fields n → Prints prints s₀ (map listing_text all) (Some e) t
    amid_stopped x t e p a = a.lines (Some e) t (stopped s t (listing_text x) (map listing_text rest) e p)

    pub amid_ended : rest ≡ [] → Amid prints s₀ s all rest plots fields n → Prints prints s₀ (map listing_text all) None s
    amid_ended e a = a.lines None s (rw e (none s))

    pub plots_counted : rest ≡ [] → Amid prints s₀ s all rest plots fields n → plots ≡ length all
    plots_counted e a = omega (arith, ap length e, a.plots_so_far)

    pub fields_counted : rest ≡ [] → Amid prints s₀ s all rest plots fields n → fields ≡ sum_by fields_in all
    fields_counted e a = omega (arith, ap (sum_by fields_in) e, a.fields_so_far)
