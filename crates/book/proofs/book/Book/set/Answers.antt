use Rattle.std.proofs.Common.{refl, arith, rules}
use Rattle.std.proofs.Math.Seq.{take-set-lt}
use Rattle.book.proofs.book.Book.set.Goals as goal

-- The write leaves the memory as long as it was, so as many lines are held, and i is one of them.
pub returns-clause-cases : goal.returns-clause-cases
returns-clause-cases g c =
    let b = c.args.self.now in
    (search rules, take-set-lt b.count b.lines.now c.args.i c.args.line (omega arith), refl)
