use Rattle.qz_nets.proofs.Solving.{readings_same, next_known}
use Rattle.qz_nets.proofs.laws.readings_agree.Goals as goal

pub returns : goal.returns
returns c = let z = next_known in λ v w reads others same n below.
    readings_same c.args.table.now.nets.entries c.args.table.now.sound v.leaf v.know w.leaf w.know reads.nets others.nets same n below
