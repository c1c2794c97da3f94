use Rattle.std.proofs.Common.{sym, subst, rules}
use Rattle.std.proofs.lemmas.Grind.{common_steps}
use Rattle.store.specs.Stores.{Puts, none}
use Rattle.store.proofs.Putting.{puts_then}
use Rattle.register.proofs.ending.settle_writes.Goals as goal
use Rattle.register.proofs.ending.settle_writes.Goals.{then-line-own+then-is_at, else-line-own}

pub loop-line-init : goal.loop-line-init
loop-line-init g c = record { cells = search rules; puts = none _ }

pub loop-line-preserved : goal.loop-line-preserved
loop-line-preserved g c = record {
  cells = search (rules, common_steps);
  puts =
      elim c.if-line-own.branch [
        | then-line-own+then-is_at w ↦
            let here = puts_then g.S.Store.beside _ _ _ c.loop-line.invariant.puts w.settle_write.ensures.puts in
            subst (Puts g.S.Store.beside c.args.store.now) (sym w.store-is) here
        | else-line-own w ↦ subst (Puts g.S.Store.beside c.args.store.now) (sym w.store-is) c.loop-line.invariant.puts
      ];
}
