-- The day of the program is one of its own cells and rooms.
use Rattle.std.proofs.Common.{◌≡◌, ℕ, List, Option, ap, ◌∙◌, subst}
use Rattle.image.specs.Flats.{flat_cells}
use Rattle.image.specs.Sparses.{sparse_cells}
use Rattle.lines.specs.declared.access.TheConstants.{READS, WRITES}
use Rattle.lines.specs.declared.note.TheConstants.{NOTES}
use Rattle.lines.specs.declared.row.TheConstants.{ROWS}
use Rattle.lines.specs.declared.transaction.TheConstants.{TRANSACTIONS}
use Rattle.policy.specs.Ranges.{near_range}
use Rattle.protocol.specs.Model.{Model, Rooms}
use Rattle.register.specs.Registers.{rooms_in}
use Rattle.store.specs.Splits.{split_cells}
use Rattle.store.specs.Stores.{Cells}
use Rattle.service.specs.Counter.{counter_cells, counter_rooms, flat_words, sparse_words}
use Rattle.service.specs.Streams.{IsStreamedDay}

pub same_cells : (cells : Cells) (flat sparse : List ℕ) → cells ≡ split_cells 1 (flat_cells 0 flat) (sparse_cells sparse) → flat ≡ flat_words
    → sparse ≡ sparse_words → cells ≡ counter_cells
same_cells cells flat sparse is in_flat in_sparse =
    is
    ∙ (ap (λ ws. split_cells 1 (flat_cells 0 ws) (sparse_cells sparse)) in_flat
    ∙ ap (λ ws. split_cells 1 (flat_cells 0 flat_words) (sparse_cells ws)) in_sparse)

pub same_rooms : (t r a w n : ℕ) → t ≡ TRANSACTIONS → r ≡ ROWS → a ≡ READS → w ≡ WRITES → n ≡ NOTES → rooms_in t r a w n ≡ counter_rooms
same_rooms t r a w n et er ea ew en =
    ap (λ k. rooms_in k r a w n) et
    ∙ (ap (λ k. rooms_in TRANSACTIONS k a w n) er
    ∙ (ap (λ k. rooms_in TRANSACTIONS ROWS k w n) ea
    ∙ (ap (λ k. rooms_in TRANSACTIONS ROWS READS k n) ew ∙ ap (λ k. rooms_in TRANSACTIONS ROWS READS WRITES k) en)))

pub program_day : (cells : Cells) (rooms : Rooms) (m : Model) (known before after : Option (List ℕ)) → cells ≡ counter_cells
    → rooms ≡ counter_rooms → IsStreamedDay near_range cells rooms m known before after
    → IsStreamedDay near_range counter_cells counter_rooms m known before after
program_day cells rooms m known before after these those day =
    subst (λ c. IsStreamedDay near_range c counter_rooms m known before after) these
    (subst (λ r. IsStreamedDay near_range cells r m known before after) those day)
