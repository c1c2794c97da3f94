use Rattle.std.proofs.Common.{rules}
use Rattle.register.proofs.Found.{last_number}
use Rattle.register.proofs.register.Register.last_begun.Goals as goal

pub returns-in-Some : goal.returns-in-Some
returns-in-Some g c = let last = last_number c.args.self.now in search rules

pub returns-in-None : goal.returns-in-None
returns-in-None g c = let last = last_number c.args.self.now in search rules
