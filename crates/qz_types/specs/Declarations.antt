-- Names that are declared one after the other, and those that are declared already.
use Rattle.std.specs.Prelude.{◌≡◌, ℕ, ◌+◌, List, [], ◌∷◌, ◌++◌, Option, Some, None, map, slice_get}
use Rattle.std.specs.Option.{is_none, option_map_or}
use Rattle.std.specs.List.{flat_map}
use Rattle.qz_syntax.specs.declared.declarations.Dir.TheVariants.{Out}
use Rattle.qz_syntax.specs.declared.file_expressions.NameAt.{NameAt}
use Rattle.qz_syntax.specs.declared.files.FileDecl.{FileDecl}
use Rattle.qz_syntax.specs.declared.files.FileFormal.{FileFormal}
use Rattle.qz_syntax.specs.declared.files.FileProto.{FileProto}
use Rattle.qz_types.specs.declared.faults.Fault.{Fault}
use Rattle.qz_types.specs.declared.faults.TypeKind.TheVariants.{DoubleName, TooMany}
use Rattle.qz_types.specs.declared.variables.Variable.{Variable}
use Rattle.qz_types.specs.Faults.{unless, fault_at, first_with}
use Rattle.qz_types.specs.Meanings.{Meanings, no_meanings, updated}
use Rattle.qz_types.specs.WrittenTypes.{type_of_text, type_faults}

-- a name that is declared, and what it stands for from then on
pub record Declaration (T : Type 0) : Type 0 where
  pub name : NameAt
  pub meaning : T

-- what names stand for after some declarations
abbrev pub declared : {T : Type 0} → List (Declaration T) → Meanings T → Meanings T
declared [] meanings = meanings
declared (d ∷ later) meanings = declared later (updated meanings d.name.name (Some d.meaning))

-- each declared name that stands for something already
abbrev pub double_names : {T : Type 0} → List (Declaration T) → Meanings T → List Fault
double_names [] meanings = []
double_names (d ∷ later) meanings =
    unless (is_none (meanings d.name.name)) DoubleName d.name.at
    ++ double_names later (updated meanings d.name.name (Some d.meaning))

-- what names stand for, and the first fault, before and after some declarations
pub record Declares {T : Type 0} (declarations : List (Declaration T)) (old new : Meanings T) (before after : Option Fault) : Type 0 where
  pub names : new ≡ declared declarations old
  pub faults : after ≡ first_with before (double_names declarations old)

-- the name of a formal; with a width out of range it has no type
abbrev pub formal_variable : FileFormal → Declaration Variable
formal_variable formal = record {
  name = formal.name;
  meaning = record { class = formal.class; dir = formal.dir; ty = type_of_text formal.ty };
}

abbrev pub formal_variables : List FileFormal → List (Declaration Variable)
formal_variables formals = map formal_variable formals

-- some names that are declared to be one thing
abbrev pub all_named : {T : Type 0} → T → List NameAt → List (Declaration T)
all_named meaning names = map (λ (name : NameAt). record { name = name; meaning = meaning }) names

-- the locals of a declaration, which may be written as an output may
abbrev pub local_variable : FileDecl → Variable
local_variable decl = record { class = decl.class; dir = Out; ty = type_of_text decl.ty }

abbrev pub decl_variables : FileDecl → List (Declaration Variable)
decl_variables decl = all_named (local_variable decl) decl.names

abbrev pub local_variables : List FileDecl → List (Declaration Variable)
local_variables decls = flat_map decl_variables decls

-- the names of prototypes, each with its number from the first one's on
abbrev pub proto_numbers : ℕ → List FileProto → List (Declaration ℕ)
proto_numbers number [] = []
proto_numbers number (proto ∷ protos) = record { name = proto.name; meaning = number } ∷ proto_numbers (number + 1) protos

-- labels stand for nothing but themselves
abbrev pub label_names : List NameAt → List (Declaration (Unit {0}))
label_names labels = all_named tt labels

-- the 257th formal of a list
abbrev pub too_many : List FileFormal → List Fault
too_many formals = option_map_or (λ (formal : FileFormal). fault_at TooMany formal.name.at ∷ []) (slice_get formals 256) []

-- a list of formals: widths, names and their number
abbrev pub formal_faults : List FileFormal → List Fault
formal_faults formals =
    flat_map (λ (formal : FileFormal). type_faults formal.ty) formals
    ++ (double_names (formal_variables formals) no_meanings ++ too_many formals)
