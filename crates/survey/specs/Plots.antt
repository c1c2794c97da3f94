-- What a store holds of a plot.
--   field_value m g n f   the value at ground g, plot n and field f in the cells m, or nothing
--   plot_in m g n         the four of them
--   field_count p         how many of them there are
use Rattle.std.specs.Prelude.{ℕ, [], ◌∷◌, count_by, cond, ◌&&◌, ℤ, is_some, None, Option, nat_lt}
use Rattle.std.specs.Option.{option_map}
use Rattle.base.specs.declared.place.Field.{Field}
use Rattle.base.specs.declared.place.Field.TheVariants.{East, North, Holder, Status}
use Rattle.base.specs.declared.place.TheConstants.{GROUNDS, PLOTS}
use Rattle.base.specs.Keys.{key_at}
use Rattle.store.specs.Stores.{Cells}
use Rattle.survey.specs.declared.plot.Plot.{Plot}

-- The value of a field of a plot; no cell has a ground above 7 or a plot above 2,047.
abbrev pub field_value : Cells → ℕ → ℕ → Field → Option ℤ
field_value m g n f =
    cond (nat_lt g GROUNDS && nat_lt n PLOTS) (option_map (λ c. c.value) (m (key_at g n f))) None

-- All four fields.
abbrev pub plot_in : Cells → ℕ → ℕ → Plot
plot_in m g n = record {
  east = field_value m g n East;
  north = field_value m g n North;
  holder = field_value m g n Holder;
  status = field_value m g n Status;
}

-- How many fields there are.
abbrev pub field_count : Plot → ℕ
field_count p = count_by is_some (p.east ∷ p.north ∷ p.holder ∷ p.status ∷ [])
