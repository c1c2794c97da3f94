-- What calls keep, one after the other.
--   none_keeps, none_rest   no call keeps all that one keeps; no settlement all that one keeps
--   keeps_then, rest_then   one more keeps what those before it kept
use Rattle.std.proofs.Common.{refl, ◌∙◌, arith}
use Rattle.book.specs.Books.{Stays}
use Rattle.book.specs.declared.book.Book.{Book}
use Rattle.register.proofs.Rows.{stays_on}
use Rattle.register.specs.Registers.{Keeps, KeepsButRowsAndCells}
use Rattle.register.specs.declared.register.Register.{Register}

stays : {L : Type 0} (b : Book L) → Stays b b
stays b = record { limit = refl; room = refl; named = refl; kept = omega arith; past = refl }

module _ {S P : Type 0} where
  pub none_keeps : (r : Register S P) → Keeps r r
  none_keeps r = record {
    policy = refl;
    transactions = stays r.transactions;
    rows = stays r.rows.book;
    reads = stays r.reads;
    writes = stays r.writes;
    notes = stays r.notes;
  }

  pub keeps_then : (r s t : Register S P) → Keeps r s → Keeps s t → Keeps r t
  keeps_then r s t k l = record {
    policy = l.policy ∙ k.policy;
    transactions = stays_on _ _ _ k.transactions l.transactions;
    rows = stays_on _ _ _ k.rows l.rows;
    reads = stays_on _ _ _ k.reads l.reads;
    writes = stays_on _ _ _ k.writes l.writes;
    notes = stays_on _ _ _ k.notes l.notes;
  }

  pub none_rest : (r : Register S P) → KeepsButRowsAndCells r r
  none_rest r = record { transactions = refl; reads = refl; writes = refl; notes = refl }

  pub rest_then : (r s t : Register S P) → KeepsButRowsAndCells r s → KeepsButRowsAndCells s t → KeepsButRowsAndCells r t
  rest_then r s t k l = record {
    transactions = l.transactions ∙ k.transactions;
    reads = l.reads ∙ k.reads;
    writes = l.writes ∙ k.writes;
    notes = l.notes ∙ k.notes;
  }
