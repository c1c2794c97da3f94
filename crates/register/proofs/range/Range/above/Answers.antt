use Rattle.std.proofs.Common.{◌≡◌, ℤ, ap, w32, to_z, of_z, rules}
use Rattle.protocol.specs.Among.{raise}
use Rattle.register.proofs.range.Range.above.Goals as goal

pub returns : goal.returns
returns c =
    let raised : to_z w32 (of_z w32 c.max.result) ≡ raise c.args.self.lower c.args.number = search rules in
    ap (λ (l : ℤ). record c.args.self { lower = l }) raised
