use Rattle.std.proofs.Common.{◌≡◌, ℤ, ap, w32, to_z, of_z, rules}
use Rattle.protocol.specs.Among.{lower}
use Rattle.register.proofs.range.Range.below.Goals as goal

pub returns : goal.returns
returns c =
    let lowered : to_z w32 (of_z w32 c.min.result) ≡ lower c.args.self.upper c.args.number = search rules in
    ap (λ (u : ℤ). record c.args.self { upper = u }) lowered
