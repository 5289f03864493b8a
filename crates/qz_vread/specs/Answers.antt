-- What reading bytes answers.
use Rattle.std.specs.Prelude.{◌≡◌, ℕ, ◌+◌, ◌<◌, ◌^◌, true, List, ◌++◌, length, Result, Ok, Err}
use Rattle.qz_verilog.specs.declared.modules.VModule.{VModule}
use Rattle.qz_vtext.specs.Text.{text_of, IsTextOf}
use Rattle.qz_vread.specs.declared.read.BadVerilog.{BadVerilog}
use Rattle.qz_vread.specs.declared.read.BadVerilog.TheVariants.{At, Memory}
use Rattle.qz_verilog.specs.Validity.{port_names}
use Rattle.qz_vread.specs.declared.drafts.Draft.{Draft}
use Rattle.qz_vread.specs.Parts.{lacks}
use Rattle.qz_vread.specs.Drafted.{written}
use Rattle.qz_vread.specs.Leading.{IsReading}
use Rattle.qz_vread.specs.Refusals.{IsModule, IsRefused}

-- the bytes are the text of this module and of no other
pub record IsRead (bytes : List ℕ) (m : VModule) : Type 0 where
  pub is : IsModule m
  pub text : IsTextOf m bytes
  pub only : (other : VModule) → IsModule other → text_of other ≡ bytes → other ≡ m

abbrev pub IsAnswer : List ℕ → Result VModule BadVerilog → Type 0
IsAnswer bytes (Ok m) = IsRead bytes m
IsAnswer bytes (Err (At line)) = IsRefused bytes line
IsAnswer bytes (Err Memory) = Unit {0}

-- all lines that a line feed ends were read, and this is the number of the line after them
pub record IsLast (bytes : List ℕ) (d : Draft) (rest : List ℕ) (line : ℕ) : Type 0 where
  pub reading : IsReading bytes d rest
  pub unended : lacks 10 rest ≡ true
  pub number : line ≡ length (written d) + 1
  pub few : length (port_names (d.ports.inputs ++ d.ports.outputs)) < 2 ^ 27
