-- What stands against words or input, and the line that says it.
use Rattle.std.specs.Prelude.{ℕ, List, ◌++◌, codes, string_bytes, encode_utf8_all}
use Rattle.std.specs.Fmt.{decimal}
use Rattle.qz_trace.specs.declared.faults.TraceKind.{TraceKind}
use Rattle.qz_trace.specs.declared.faults.TraceKind.TheVariants as trace
use Rattle.qz_types.specs.declared.faults.TypeKind.{TypeKind}
use Rattle.qz_types.specs.declared.faults.TypeKind.TheVariants as type
use Rattle.qz_syntax.specs.declared.refusals.Doubt.{Doubt}
use Rattle.qz_syntax.specs.declared.refusals.Doubt.TheVariants as doubt
use Rattle.qz_diag.specs.declared.words.ByteFault.{ByteFault}
use Rattle.qz_diag.specs.declared.words.ByteFault.TheVariants as byte
use Rattle.qz_diag.specs.declared.refusal.Refusal.{Refusal}
use Rattle.qz_diag.specs.declared.refusal.Refusal.TheVariants as refusal

-- files and modules by the bytes of their names
pub data Cause : Type 0 where
  Usage : Cause
  -- the file isn't held
  Absent : List ℕ → Cause
  -- it has more bytes than its limit
  TooLong : List ℕ → Cause
  -- the file's bytes are no text that can be built yet
  NotBuilt : List ℕ → Cause
  -- the file's bytes are at fault at this byte, from 0 on
  AtByte : List ℕ → ByteFault → ℕ → Cause
  -- the size of the file's module is too large
  FileSize : List ℕ → ℕ → Cause
  -- the module in the file has this name
  WrongName : List ℕ → List ℕ → Cause
  -- this line of a Verilog text, from 1 on, can't come there
  BadVerilog : List ℕ → ℕ → Cause
  -- no module has this name
  Missing : List ℕ → Cause
  -- the body of the loop with this number may end at once, in the module of this name
  InstantLoop : ℕ → List ℕ → Cause
  -- the size of the whole program is too large
  Size : ℕ → Cause
  -- the first line of a trace at fault, from 1 on, and what is at fault in it
  BadTrace : List ℕ → ℕ → TraceKind → Cause
  -- the first step that isn't definite, from 1 on, and the first instance in doubt there, by its text
  NotDefinite : ℕ → List ℕ → Doubt → Cause

-- a fault of types, in words
abbrev pub type_fault_text : TypeKind → List ℕ
type_fault_text type.UnknownName = codes "unknown name"
type_fault_text type.DoubleName = codes "name declared twice"
type_fault_text type.TypeDiffers = codes "types differ"
type_fault_text type.WidthRange = codes "width out of range"
type_fault_text type.LiteralRange = codes "literal out of range"
type_fault_text type.WriteToInput = codes "write to an input"
type_fault_text type.NotWritable = codes "argument isn't writable"
type_fault_text type.ArgCount = codes "wrong number of arguments"
type_fault_text type.ArgClass = codes "class differs"
type_fault_text type.SliceRange = codes "index out of range"
type_fault_text type.TooMany = codes "too many formals"

-- what is at fault at a byte of a source, in words
abbrev pub byte_fault_text : ByteFault → List ℕ
byte_fault_text byte.NotUtf8 = codes "not UTF-8"
byte_fault_text byte.Lex = codes "no token"
byte_fault_text byte.Parse = codes "syntax"
byte_fault_text byte.Deep = codes "nested too deep"
byte_fault_text (byte.Types kind) = type_fault_text kind

-- what is at fault in a line of a trace, in words
abbrev pub trace_fault_text : TraceKind → List ℕ
trace_fault_text trace.End = codes "unended"
trace_fault_text trace.Count = codes "wrong count"
trace_fault_text trace.Form = codes "not a number"
trace_fault_text trace.Range = codes "out of range"

-- why an instance isn't definite, in words
abbrev pub doubt_text : Doubt → List ℕ
doubt_text doubt.Unknown = codes "unknown"
doubt_text doubt.Clash = codes "clash"

-- the line of a cause, with its end
abbrev pub line_of : Cause → List ℕ
line_of Usage = codes "usage: quartzc MODE NAME FILE...\n"
line_of (Absent file) = file ++ codes ": absent\n"
line_of (TooLong file) = file ++ codes ": too long\n"
line_of (NotBuilt file) = file ++ codes ": not built yet\n"
line_of (AtByte file fault offset) = file ++ (codes ": " ++ (byte_fault_text fault ++ (codes " at byte " ++ (decimal offset ++ codes "\n"))))
line_of (FileSize file units) = file ++ (codes ": size " ++ (decimal units ++ codes " is above 100000\n"))
line_of (WrongName file name) = file ++ (codes ": module is " ++ (name ++ codes "\n"))
line_of (BadVerilog file line) = file ++ (codes ": bad Verilog at line " ++ (decimal line ++ codes "\n"))
line_of (Missing name) = codes "module " ++ (name ++ codes " is missing\n")
line_of (InstantLoop number name) = codes "loop " ++ (decimal number ++ (codes " of " ++ (name ++ codes " may end at once\n")))
line_of (Size units) = codes "size " ++ (decimal units ++ codes " is above 100000\n")
line_of (BadTrace file line kind) = file ++ (codes ": line " ++ (decimal line ++ (codes " " ++ (trace_fault_text kind ++ codes "\n"))))
line_of (NotDefinite step name why) = codes "step " ++ (decimal step ++ (codes ": " ++ (name ++ (codes " " ++ (doubt_text why ++ codes "\n")))))

-- what is said, as a cause
abbrev pub cause_of : Refusal → Cause
cause_of refusal.Usage = Usage
cause_of (refusal.Absent file) = Absent (string_bytes file)
cause_of (refusal.TooLong file) = TooLong (string_bytes file)
cause_of (refusal.NotBuilt file) = NotBuilt (string_bytes file)
cause_of (refusal.AtByte file fault offset) = AtByte (string_bytes file) fault offset
cause_of (refusal.FileSize file units) = FileSize (string_bytes file) units
cause_of (refusal.WrongName file name) = WrongName (string_bytes file) (encode_utf8_all name)
cause_of (refusal.BadVerilog file line) = BadVerilog (string_bytes file) line
cause_of (refusal.Missing name) = Missing (string_bytes name)
cause_of (refusal.InstantLoop name number) = InstantLoop number (encode_utf8_all name)
cause_of (refusal.Size units) = Size units
cause_of (refusal.BadTrace file line kind) = BadTrace (string_bytes file) line kind
cause_of (refusal.NotDefinite step name why) = NotDefinite step (string_bytes name) why
