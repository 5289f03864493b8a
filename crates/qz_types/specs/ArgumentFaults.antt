-- What is said against the arguments of a call.
use Rattle.std.specs.Prelude.{ℕ, Bool, true, false, ◌==◌, List, [], ◌∷◌, ◌++◌, length, Option, Some, None, option_and_then, slice_get, if◌then◌else◌}
use Rattle.std.specs.Option.{option_map}
use Rattle.std.specs.List.{flat_map}
use Rattle.qz_values.specs.Types.{is_same_type}
use Rattle.qz_syntax.specs.declared.declarations.Class.{Class}
use Rattle.qz_syntax.specs.declared.declarations.Dir.{Dir}
use Rattle.qz_syntax.specs.declared.declarations.Dir.TheVariants.{In, Out}
use Rattle.qz_syntax.specs.declared.file_expressions.NameAt.{NameAt}
use Rattle.qz_syntax.specs.declared.file_expressions.FileExpr.{FileExpr, out-FileExpr}
use Rattle.qz_syntax.specs.declared.file_expressions.FileExpr.TheOpen.{FileExpr-F}
use Rattle.qz_syntax.specs.declared.files.FileFormal.{FileFormal}
use Rattle.qz_syntax.specs.declared.files.FileProto.{FileProto}
use Rattle.qz_syntax.specs.Typing.{is_same_class}
use Rattle.qz_types.specs.declared.faults.Fault.{Fault}
use Rattle.qz_types.specs.declared.faults.TypeKind.TheVariants.{UnknownName, TypeDiffers, NotWritable, ArgCount, ArgClass}
use Rattle.qz_types.specs.declared.variables.Variable.{Variable}
use Rattle.qz_types.specs.Faults.{fault_at, unless}
use Rattle.qz_types.specs.Meanings.{Meanings}
use Rattle.qz_types.specs.WrittenTypes.{type_of_text, where_both}
use Rattle.qz_types.specs.ExpressionTypes.{told, first_token}

-- whether it is no input
abbrev pub is_writable : Dir → Bool
is_writable In = false
is_writable Out = true

-- an output argument that is a name: a variable that may be written, of the formal's class
abbrev pub output_name_faults : Class → ℕ → Option Variable → List Fault
output_name_faults class at None = []
output_name_faults class at (Some v) =
    unless (is_writable v.dir) NotWritable at ++ unless (is_same_class v.class class) ArgClass at

-- an output argument, which has to be a plain name
abbrev pub output_faults : {A : Type 0} → Meanings Variable → Class → ℕ → FileExpr-F A → List Fault
output_faults names class at (FileExpr-F.Name name) = output_name_faults class at (names name.name)
output_faults names class at other = fault_at NotWritable at ∷ []

-- what a formal's direction asks of its argument
abbrev pub direction_faults : Meanings Variable → Dir → Class → FileExpr → List Fault
direction_faults names In class argument = []
direction_faults names Out class argument = output_faults names class (first_token argument) (out-FileExpr argument)

-- an argument at its formal: what is said of itself, its type, and what its direction asks
abbrev pub argument_faults : Meanings Variable → FileFormal → FileExpr → List Fault
argument_faults names formal argument =
    (told names argument).faults
    ++ (where_both (told names argument).ty (type_of_text formal.ty) (λ s t. unless (is_same_type s t) TypeDiffers (first_token argument))
    ++ direction_faults names formal.dir formal.class argument)

-- as many arguments as formals
abbrev pub matched_faults : Meanings Variable → List FileFormal → List FileExpr → List Fault
matched_faults names formals [] = []
matched_faults names [] (argument ∷ arguments) = []
matched_faults names (formal ∷ formals) (argument ∷ arguments) =
    argument_faults names formal argument ++ matched_faults names formals arguments

-- what is said of some expressions by themselves
abbrev pub own_faults : Meanings Variable → List FileExpr → List Fault
own_faults names arguments = flat_map (λ argument. (told names argument).faults) arguments

-- a call of a module with these formals, if there is one of its name
abbrev pub call_faults : Meanings Variable → ℕ → List FileExpr → Option (List FileFormal) → List Fault
call_faults names at arguments None = fault_at UnknownName at ∷ own_faults names arguments
call_faults names at arguments (Some formals) =
    if length arguments == length formals then matched_faults names formals arguments
    else fault_at ArgCount at ∷ own_faults names arguments

-- the formals of the prototype of a name
abbrev pub formals_of : List FileProto → Meanings ℕ → List ℕ → Option (List FileFormal)
formals_of protos numbers name =
    option_and_then (λ number. option_map (λ (proto : FileProto). proto.formals) (slice_get protos number)) (numbers name)
