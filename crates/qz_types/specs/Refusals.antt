-- What a refusal says of a file.
use Rattle.qz_syntax.specs.declared.files.File.{File}
use Rattle.qz_types.specs.declared.typed.TypeRefusal.{TypeRefusal}
use Rattle.qz_types.specs.declared.typed.TypeRefusal.TheVariants.{At, Memory}
use Rattle.qz_types.specs.Faults.{IsFirst, fault_at}
use Rattle.qz_types.specs.FileFaults.{faults_of}

-- the first fault of the file; want of memory says nothing of it
abbrev pub IsRefused : File → TypeRefusal → Type 0
IsRefused file (At offset kind) = IsFirst (faults_of file) (fault_at kind offset)
IsRefused file Memory = Unit {0}
