-- The text of what is built, put together.
use Rattle.std.proofs.Common.{◌≡◌, ℕ, List, Result, Ok, Err, IfOk, Vec, sym, subst}
use Rattle.std.specs.declared.alloc.Global.{Global}
use Rattle.std.specs.declared.alloc.AllocError.{AllocError}
use Rattle.qz_syntax.specs.declared.modules.Module.{Module}
use Rattle.qz_first.specs.declared.source.SourceModule.{SourceModule}
use Rattle.qz_first.specs.declared.reader.NoSource.{NoSource}
use Rattle.qz_verilog.specs.declared.modules.VModule.{VModule}
use Rattle.qz_first.specs.FirstLanguage.{IsFirst}
use Rattle.qz_first.specs.Implements.{Implements}
use Rattle.qz_vtext.specs.Text.{IsTextOf}
use Rattle.qz_first.specs.Grammar.{FitsModule}
use Rattle.qz_first.specs.CoreTree.{IsAsked, core_module}
use Rattle.qz_first.specs.Texts.{IsTextOfProgram}
use Rattle.qz_first.proofs.FirstSources.{first_source}
use Rattle.qz_first.proofs.AlwaysDefinite.{always_definite}
use Rattle.qz_first.proofs.DoingPrograms.{implementation_does_program}

-- what typing gives is a module of the first language
pub first_of_typed : (name : List ℕ) (source : SourceModule) (r : Result Module NoSource) → FitsModule source
    → IfOk r (λ m. IsAsked name source) → IfOk r (λ m. m ≡ core_module source) → IfOk r IsFirst
first_of_typed name source (Ok m) fits asked core = subst IsFirst (sym core) (first_source name source asked fits.formals)
first_of_typed name source (Err fault) fits asked core = tt

-- the text of a circuit that implements a module of the first language
pub text_of_implementation : (program : Module) (v : VModule) (r : Result (Vec ℕ Global) AllocError) → IsFirst program → Implements v program
    → IfOk r (λ text. IsTextOf v text.items) → IfOk r (λ text. IsTextOfProgram program text.items)
text_of_implementation program v (Ok text) first implements written = record {
  definite = always_definite program first;
  circuit = v;
  does = implementation_does_program v program first implements;
  written = written;
}
text_of_implementation program v (Err fault) first implements written = tt
