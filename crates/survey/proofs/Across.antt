-- Printing the plots of one ground after another, and then the counts.
use Rattle.std.proofs.Common.{◌≡◌, ℕ, suc, ◌+◌, ◌-◌, ◌*◌, ◌<◌, ◌≤◌, List, [], ◌∷◌, ◌++◌, length, map, cond, ltb, Some, None, Option, Result, refl, sym, ap, ◌∙◌, arith, length-append, append_assoc}
use Rattle.std.specs.declared.io.Error.{Error}
use Rattle.std.specs.Prelude.{sum_by}
use Rattle.std.specs.List.{range_with_len}
use Rattle.std.specs.Result.{result_err}
use Rattle.std.proofs.lemmas.Bool.Decides.{nat_tests}
use Rattle.std.proofs.lemmas.List.{map-append}
use Rattle.std.proofs.lemmas.List.Sums.{sum_by-append, sum_by-cons}
use Rattle.base.specs.declared.place.TheConstants.{GROUNDS, PLOTS}
use Rattle.store.specs.Stores.{Cells}
use Rattle.survey.specs.Printing.{Prints, all_plots, counts_of, fields_in, grounds_on, plots_lines, plots_of, plots_on}
use Rattle.survey.specs.Texts.{counts_text, listing_text}
use Rattle.survey.proofs.Prints.{prints_on, prints_short, prints_one}

-- The plots from one ground on: that one's, and then those from the next on.
module _ (m : Cells) (g : ℕ) (h : g < GROUNDS) where
  pub plots_next : plots_on m g (GROUNDS - g) ≡ plots_of m g ++ plots_on m (g + 1) (GROUNDS - (g + 1))
  unfolding plots_on
  plots_next = let k : GROUNDS - g ≡ suc (GROUNDS - (g + 1)) = omega arith in rw k refl

  pub grounds_next : grounds_on m g (GROUNDS - g) ≡ cond (ltb 0 (length (plots_of m g))) 1 0 + grounds_on m (g + 1) (GROUNDS - (g + 1))
  unfolding grounds_on
  grounds_next = let k : GROUNDS - g ≡ suc (GROUNDS - (g + 1)) = omega arith in rw k (sum_by-cons (λ n. cond (ltb 0 (length (plots_of m n))) 1 0) g (range_with_len (g + 1) (GROUNDS - (g + 1))))

-- None are left at the end.
module _ (m : Cells) (g : ℕ) (h : GROUNDS ≤ g) where
  pub no_plots : plots_on m g (GROUNDS - g) ≡ []
  unfolding plots_on
  no_plots = let k : GROUNDS - g ≡ 0 = omega arith in rw k refl

  pub no_grounds : grounds_on m g (GROUNDS - g) ≡ 0
  unfolding grounds_on
  no_grounds = let k : GROUNDS - g ≡ 0 = omega arith in rw k refl

-- The last line.
abbrev pub last_line : Cells → List (List ℕ)
last_line m = counts_text (counts_of m) ∷ []

-- The lines of ground g and later ones, and the last.
abbrev pub lines_on : Cells → ℕ → List (List ℕ)
lines_on m g = map listing_text (plots_on m g (GROUNDS - g)) ++ last_line m

-- Between two grounds: the printer went from s₀ to s, the lines from ground g on are still to come, and what was printed is counted.
pub record Across {P : Type 0} (prints : P → List ℕ → Result Unit Error → P → Type 0) (s₀ s : P) (m : Cells) (g plots grounds fields : ℕ)
    : Type 0 where
  pub lines : (o : Option Error) (t : P) → Prints prints s (lines_on m g) o t → Prints prints s₀ (plots_lines m) o t
  pub plots_so_far : plots + length (plots_on m g (GROUNDS - g)) ≡ length (all_plots m)
  pub grounds_so_far : grounds + grounds_on m g (GROUNDS - g) ≡ grounds_on m 0 GROUNDS
  pub fields_so_far : fields + sum_by fields_in (plots_on m g (GROUNDS - g)) ≡ sum_by fields_in (all_plots m)
  pub few_plots : plots ≤ PLOTS * g
  pub few_grounds : grounds ≤ g
  pub few_fields : fields ≤ 4 * PLOTS * g

module _ {P : Type 0} (prints : P → List ℕ → Result Unit Error → P → Type 0) (s₀ : P) (m : Cells) where
  pub across_start : Across prints s₀ s₀ m 0 0 0 0
  across_start = record {
    lines = λ o t p. p;
    plots_so_far = omega arith;
    grounds_so_far = omega arith;
    fields_so_far = omega arith;
    few_plots = omega arith;
    few_grounds = omega arith;
    few_fields = omega arith;
  }

  module _ (s t : P) (g plots grounds fields : ℕ) (h : g < GROUNDS) (a : Across prints s₀ s m g plots grounds fields) where
    parted : lines_on m g ≡ map listing_text (plots_of m g) ++ lines_on m (g + 1)
    parted =
        ap (λ ls. map listing_text ls ++ last_line m) (plots_next m g h)
        ∙ (ap (λ ls. ls ++ last_line m) (map-append listing_text (plots_of m g) (plots_on m (g + 1) (GROUNDS - (g + 1))))
        ∙ append_assoc (map listing_text (plots_of m g)) (map listing_text (plots_on m (g + 1) (GROUNDS - (g + 1)))) (last_line m))

    pub across_stopped : (e : Error) → Prints prints s (map listing_text (plots_of m g)) (Some e) t
        → Prints prints s₀ (plots_lines m) (Some e) t
    across_stopped e p = a.lines (Some e) t (rw parted (prints_short prints s t (map listing_text (plots_of m g)) (lines_on m (g + 1)) e p))

    pub across_ground : (p q f : ℕ) → p ≡ length (plots_of m g) → q ≡ cond (ltb 0 p) 1 0 → f ≡ sum_by fields_in (plots_of m g)
        → p ≤ PLOTS → f ≤ 4 * PLOTS → Prints prints s (map listing_text (plots_of m g)) None t
        → Across prints s₀ t m (g + 1) (plots + p) (grounds + q) (fields + f)
    across_ground p q f ps qs fs few_p few_f printed =
        let few_q : q ≤ 1 = grind (arith, nat_tests) in
        let more_q : q ≡ cond (ltb 0 (length (plots_of m g))) 1 0 = qs ∙ ap (λ n. cond (ltb 0 n) 1 0) ps in
        let next = plots_next m g h in
        record {
          lines = λ o u r. a.lines o u (rw parted (prints_on prints s t u (map listing_text (plots_of m g)) (lines_on m (g + 1)) o printed r));
          plots_so_far =
              omega (arith, a.plots_so_far, ap length next, length-append (plots_of m g) (plots_on m (g + 1) (GROUNDS - (g + 1))));
          grounds_so_far = omega (arith, a.grounds_so_far, grounds_next m g h);
          fields_so_far =
              omega (arith, a.fields_so_far, ap (sum_by fields_in) next, sum_by-append fields_in (plots_of m g) (plots_on m (g + 1) (GROUNDS - (g + 1))));
          few_plots = omega (arith, a.few_plots);
          few_grounds = omega (arith, a.few_grounds);
          few_fields = omega (arith, a.few_fields);
        }

  module _ (s t : P) (g plots grounds fields : ℕ) (h : GROUNDS ≤ g) (a : Across prints s₀ s m g plots grounds fields) where
    counted : counts_of m ≡ record { plots = plots; grounds = grounds; fields = fields }
    counted =
        let p : length (all_plots m) ≡ plots = omega (arith, a.plots_so_far, ap length (no_plots m g h)) in
        let q : grounds_on m 0 GROUNDS ≡ grounds = omega (arith, a.grounds_so_far, no_grounds m g h) in
        let f : sum_by fields_in (all_plots m) ≡ fields = omega (arith, a.fields_so_far, ap (sum_by fields_in) (no_plots m g h)) in
        rw (p, q, f) refl

    -- The counts at the end.
    pub across_ended : (x : List ℕ) (r : Result Unit Error) → x ≡ counts_text (record { plots = plots; grounds = grounds; fields = fields })
        → prints s x r t → Prints prints s₀ (plots_lines m) (result_err r) t
    across_ended x r e p =
        let is : lines_on m g ≡ x ∷ [] =
        ap (λ ls. map listing_text ls ++ last_line m) (no_plots m g h) ∙ ap (λ l. l ∷ []) (ap counts_text counted ∙ sym e) in
        a.lines (result_err r) t (rw is (prints_one prints s t x x r refl p))
