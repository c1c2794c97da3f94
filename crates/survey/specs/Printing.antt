-- What is printed of a store, and what becomes of it.
--   plots_of m g, all_plots m       the plots of ground g, and of all grounds, of which the cells m have a field, by rising keys
--   counts_of m                     how many plots and fields these are, on how many grounds
--   plots_lines m                   the lines that are printed: each plot's, then the counts
--   Prints prints s xs o t          printing the lines xs one after another took the printer s to t, and the error o stopped it, if any
--   PrintsImage                     what is printed of an image, and where
--   bytes_fault bs, plots_text bs   the fault of the image of the bytes bs, and what is printed of it where it has none
use Rattle.std.specs.Prelude.{◌≡◌, ℕ, ◌%◌, Bool, true, false, List, [], ◌∷◌, ◌++◌, length, filter, map, sum_by, count_by, Some, None, Ok, Err, IfOk, MatchOption, Option, Result, nat_lt}
use Rattle.std.specs.List.{concat, flat_map, range_with_len}
use Rattle.std.specs.Result.{result_err}
use Rattle.std.specs.declared.io.Error.{Error}
use Rattle.base.specs.declared.place.TheConstants.{GROUNDS, PLOTS}
use Rattle.wire.specs.Bytes.{words_in}
use Rattle.image.specs.declared.fault.Fault.{Fault}
use Rattle.image.specs.Sparses.{sparse_cells}
use Rattle.store.specs.Stores.{Cells}
use Rattle.survey.specs.declared.counts.Counts.{Counts}
use Rattle.survey.specs.declared.listing.Listing.{Listing}
use Rattle.survey.specs.Images.{image_fault}
use Rattle.survey.specs.Plots.{field_count, plot_in}
use Rattle.survey.specs.Texts.{counts_text, listing_text, refusal_line}

-- Plot n of ground g.
abbrev pub listing : Cells → ℕ → ℕ → Listing
listing m g n = record { burial_ground = g; number = n; plot = plot_in m g n }

-- How many fields of a plot there are.
abbrev pub fields_in : Listing → ℕ
fields_in l = field_count l.plot

-- The k plots of a ground from number n on, less those without a field.
unfoldable pub plots_from : Cells → ℕ → ℕ → ℕ → List Listing
plots_from m g n k = filter (λ l. nat_lt 0 (fields_in l)) (map (listing m g) (range_with_len n k))

-- All plots of a ground that have a field, by rising number.
abbrev pub plots_of : Cells → ℕ → List Listing
plots_of m g = plots_from m g 0 PLOTS

-- Those of the k grounds from ground g on, by rising ground.
unfoldable pub plots_on : Cells → ℕ → ℕ → List Listing
plots_on m g k = flat_map (plots_of m) (range_with_len g k)

-- How many of these grounds have any.
unfoldable pub grounds_on : Cells → ℕ → ℕ → ℕ
grounds_on m g k = count_by (λ h. nat_lt 0 (length (plots_of m h))) (range_with_len g k)

-- Those of all grounds, by rising keys.
abbrev pub all_plots : Cells → List Listing
all_plots m = plots_on m 0 GROUNDS

-- How many plots there are, on how many grounds, and how many fields these have.
abbrev pub counts_of : Cells → Counts
counts_of m = record {
  plots = length (all_plots m);
  grounds = grounds_on m 0 GROUNDS;
  fields = sum_by fields_in (all_plots m);
}

-- The lines that are printed.
abbrev pub plots_lines : Cells → List (List ℕ)
plots_lines m = map listing_text (all_plots m) ++ counts_text (counts_of m) ∷ []

-- Lines that go to a printer one after another: all of them are taken, or the printer's own error at one of them is answered.
pub data Prints {P E : Type 0} (prints : P → List ℕ → Result Unit E → P → Type 0) : P → List (List ℕ) → Option E → P → Type 0 where
  none : (s : P) → Prints prints s [] None s
  more : (s t u : P) (x : List ℕ) (xs : List (List ℕ)) (o : Option E) → prints s x (Ok tt) t → Prints prints t xs o u
      → Prints prints s (x ∷ xs) o u
  stopped : (s t : P) (x : List ℕ) (xs : List (List ℕ)) (e : E) → prints s x (Err e) t → Prints prints s (x ∷ xs) (Some e) t

-- Of a good image its plots are printed and true is answered; of a bad one the line that says so, among the errors, and false. The other
-- printer stays as it was, and the only error that can be answered is the printer's own. The image is the words ws and n bytes more.
abbrev pub PrintsImage : {P Q : Type 0} → (P → List ℕ → Result Unit Error → P → Type 0) → (Q → List ℕ → Result Unit Error → Q → Type 0)
    → List ℕ → ℕ → P → Q → Result Bool Error → P → Q → Type 0
PrintsImage prints tells ws n out errors r out' errors' =
    MatchOption (image_fault ws n)
    (Prints prints out (plots_lines (sparse_cells ws)) (result_err r) out' × (errors' ≡ errors) × IfOk r (λ good. good ≡ true))
    (λ f. Prints tells errors (refusal_line f ∷ []) (result_err r) errors' × (out' ≡ out) × IfOk r (λ good. good ≡ false))

-- The fault of the bytes of an image, if any.
abbrev pub bytes_fault : List ℕ → Option Fault
bytes_fault bs = image_fault (words_in bs) (length bs % 4)

-- What is printed of the bytes of a good image.
abbrev pub plots_text : List ℕ → List ℕ
plots_text bs = concat (plots_lines (sparse_cells (words_in bs)))
