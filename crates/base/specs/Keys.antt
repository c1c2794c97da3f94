-- A key has sixteen bits: the ground in bits 15 to 13, the plot in bits 12 to 2, the field in bits 1 and 0.
--   ground_of k, plot_of k, field_of k   the three parts of the key k
--   key_at g n f, key_of p               the key of ground g, plot n and field f; that of the place p
--   Names k p                            the parts of the key k are those of the place p
--   MakesPlace o g n f                   the place o is that of ground g, plot n and field f, or there is none
use Rattle.std.specs.Prelude.{◌≡◌, ℕ, ◌+◌, ◌*◌, ◌/◌, ◌%◌, ◌<◌, cond, Some, None, Option, ◌==◌}
use Rattle.base.specs.declared.place.Field.{Field}
use Rattle.base.specs.declared.place.Field.TheVariants.{East, North, Holder, Status}
use Rattle.base.specs.declared.place.Place.{Place}
use Rattle.base.specs.declared.place.TheConstants.{GROUNDS, PLOTS}

-- Bits 15 to 13.
abbrev pub ground_of : ℕ → ℕ
ground_of k = k / 8192

-- Bits 12 to 2.
abbrev pub plot_of : ℕ → ℕ
plot_of k = k / 4 % 2048

-- The number of a field.
abbrev pub field_number : Field → ℕ
field_number East = 0
field_number North = 1
field_number Holder = 2
field_number Status = 3

-- Bits 1 and 0.
abbrev pub field_of : ℕ → Field
field_of k =
    cond (k % 4 == 0) East
    (cond (k % 4 == 1) North
    (cond (k % 4 == 2) Holder Status))

-- The key of a ground's plot and field: the three side by side.
abbrev pub key_at : ℕ → ℕ → Field → ℕ
key_at g n f = 8192 * g + 4 * n + field_number f

-- The key of a place.
abbrev pub key_of : Place → ℕ
key_of p = key_at p.burial_ground p.plot p.field

-- The parts of the key k are those of the place p.
pub record Names (k : ℕ) (p : Place) : Type 0 where
  pub ground : ground_of k ≡ p.burial_ground
  pub plot : plot_of k ≡ p.plot
  pub field : field_of k ≡ p.field

-- A place made of three parts has them; nothing is made exactly of a ground above 7 or a plot above 2,047.
abbrev pub MakesPlace : Option Place → ℕ → ℕ → Field → Type 0
MakesPlace (Some p) g n f = (p.burial_ground ≡ g) × (p.plot ≡ n) × (p.field ≡ f)
MakesPlace None g n f = g < GROUNDS → n < PLOTS → ⊥
