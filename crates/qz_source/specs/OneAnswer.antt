-- Bytes have at most one answer.
use Rattle.std.specs.Prelude.{◌≡◌, ◌≢◌, ℕ, List}
use Rattle.qz_syntax.specs.declared.files.File.{File}
use Rattle.qz_source.specs.declared.faults.SourceFault.{SourceFault}
use Rattle.qz_source.specs.declared.faults.SourceFault.TheVariants as fault
use Rattle.qz_source.specs.Sources.{IsSource, IsSourceFault}

-- nothing but want of memory is told against bytes that spell a file, and of other bytes only one thing is
pub record HasOneAnswer (bytes : List ℕ) : Type 0 where
  pub no_fault : (f : File) → IsSource bytes f → (why : SourceFault) → IsSourceFault bytes why → why ≡ fault.Memory
  pub one_fault : (a b : SourceFault) → IsSourceFault bytes a → IsSourceFault bytes b → a ≢ fault.Memory → b ≢ fault.Memory → a ≡ b
