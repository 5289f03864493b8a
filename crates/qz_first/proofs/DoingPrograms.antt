-- A Verilog module that implements a module of the first language is valid and does its program.
use Rattle.qz_syntax.specs.declared.modules.Module.{Module}
use Rattle.qz_verilog.specs.declared.modules.VModule.{VModule}
use Rattle.qz_verilog.specs.Validity.{IsValid}
use Rattle.qz_first.specs.FirstLanguage.{IsFirst}
use Rattle.qz_first.specs.Implements.{Implements}
use Rattle.qz_first.specs.Does.{DoesProgram}
use Rattle.qz_first.proofs.BitModules.{bit_module_is_valid}
use Rattle.qz_first.proofs.ClockRuns.{does_program}

pub implementation_is_valid : (v : VModule) (m : Module) → IsFirst m → Implements v m → IsValid v
implementation_is_valid v m first h = bit_module_is_valid v (h.valid first)

pub implementation_does_program : (v : VModule) (m : Module) → IsFirst m → Implements v m → DoesProgram v m
implementation_does_program v m first h =
    does_program m first v (h.valid first)
    (λ registers outs next clock.
    let step = h.clock registers outs next clock in
    record { outs_are = step.outs_are; rests = step.places; started = step.started })
    h.begins h.name h.outputs
