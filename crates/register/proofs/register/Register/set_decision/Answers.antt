use Rattle.std.proofs.Common.{eqb, sym, refl, ◌∙◌, subst, rules}
use Rattle.book.specs.Books.{lines_of}
use Rattle.register.specs.Sound.{SoundLines}
use Rattle.register.proofs.Found.{number}
use Rattle.register.proofs.Places.{held_set, replaced_at}
use Rattle.register.proofs.Sound.{lines_sound, decided}
use Rattle.register.proofs.register.Register.set_decision.Goals as goal

pub invariant_of-self : goal.invariant_of-self
invariant_of-self g c =
    let self = c.args.self.now in
    let ts = lines_of self.transactions in
    let rs = lines_of self.reads in
    let ws = lines_of self.writes in
    let lines = held_set c.args.place _ self.transactions c.set.new.self c.set.result c.set.ensures.cases c.requires.within
    ∙ replaced_at eqb number c.args.transaction c.args.place _ ts c.requires.position in
    record {
      sound =
          ∣ subst (λ xs. SoundLines xs rs ws) (sym lines) (decided ts rs ws (lines_sound ts rs ws self.sound) c.args.transaction _ refl) ∣₁;
      limits = self.limits;
    }

pub returns-clause-model : goal.returns-clause-model
returns-clause-model g c =
    let self = c.args.self.now in
    let ts = lines_of self.transactions in
    let lines = held_set c.args.place _ self.transactions c.set.new.self c.set.result c.set.ensures.cases c.requires.within
    ∙ replaced_at eqb number c.args.transaction c.args.place _ ts c.requires.position in
    search rules
