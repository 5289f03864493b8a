use Rattle.qz_verilog.proofs.KeepingTypes.{keeps_types, AreOf-values}
use Rattle.qz_verilog.proofs.laws.a_valid_module_keeps_types.Goals as goal

pub returns-clause-keeps : goal.returns-clause-keeps
returns-clause-keeps c = keeps_types

pub returns-clause-begins : goal.returns-clause-begins
returns-clause-begins c = λ m valid. AreOf-values m.regs valid.registers
