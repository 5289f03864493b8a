use Rattle.qz_verilog.proofs.ValidityLemmas.{length-AreNetsOf}
use Rattle.qz_verilog.proofs.validity.are_nets_of_registers.Goals as goal

pub returns-then-regs-nets : goal.returns-then-regs-nets
returns-then-regs-nets c = (λ h. cc, λ h. absurd (c.if-regs-nets.true (length-AreNetsOf _ _ c.args.regs.now c.args.nets.now h)))
