use Rattle.qz_verilog.proofs.ValidityLemmas.{length-AreNetsOf}
use Rattle.qz_verilog.proofs.validity.are_nets_of_ports.Goals as goal

pub returns-then-ports-nets : goal.returns-then-ports-nets
returns-then-ports-nets c = (λ h. cc, λ h. absurd (c.if-ports-nets.true (length-AreNetsOf _ _ c.args.ports.now c.args.nets.now h)))
