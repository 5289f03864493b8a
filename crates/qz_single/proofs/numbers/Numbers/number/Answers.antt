use Rattle.std.proofs.Common.{Some, None}
use Rattle.qz_react.specs.Seeing.{instance_of}
use Rattle.qz_single.proofs.Placed.{number_of}
use Rattle.qz_single.proofs.numbers.Numbers.number.Goals as goal

pub returns-in-Some : goal.returns-in-Some
returns-in-Some c = λ instances are.
    number_of (instance_of c.args.instance) instances c.args.self.now.count (Some c.in-Some.number) are.count (c.in-Some.ensures instances are)

pub returns-in-None : goal.returns-in-None
returns-in-None c = λ instances are.
    number_of (instance_of c.args.instance) instances c.args.self.now.count None are.count (c.in-None.ensures instances are)
