-- What is said against a statement.
use Rattle.std.specs.Prelude.{ℕ, List, [], ◌∷◌, ◌++◌, Option, Some, None, option_and_then}
use Rattle.std.specs.Option.{option_to_list, option_map_or}
use Rattle.std.specs.List.{flat_map}
use Rattle.qz_values.specs.declared.Ty.{Ty}
use Rattle.qz_values.specs.Types.{is_bool, is_same_type}
use Rattle.qz_syntax.specs.declared.file_expressions.NameAt.{NameAt}
use Rattle.qz_syntax.specs.declared.file_expressions.FileExpr.{FileExpr}
use Rattle.qz_syntax.specs.declared.file_statements.Cond.{Cond}
use Rattle.qz_syntax.specs.declared.file_statements.Target.{Target}
use Rattle.qz_syntax.specs.declared.file_statements.FileStmt.{FileStmt}
use Rattle.qz_syntax.specs.declared.file_statements.FileStmt.TheOpen.{FileStmt-F, FileBlock-F}
use Rattle.qz_syntax.specs.declared.file_statements.FileStmt.TheFolds.{fold-FileStmt}
use Rattle.qz_syntax.specs.declared.files.FileDecl.{FileDecl}
use Rattle.qz_syntax.specs.declared.files.FileProto.{FileProto}
use Rattle.qz_types.specs.declared.faults.Fault.{Fault}
use Rattle.qz_types.specs.declared.faults.TypeKind.TheVariants.{UnknownName, TypeDiffers, WriteToInput}
use Rattle.qz_types.specs.declared.variables.Variable.{Variable}
use Rattle.qz_types.specs.Faults.{fault_at, unless}
use Rattle.qz_types.specs.Meanings.{Meanings}
use Rattle.qz_types.specs.WrittenTypes.{type_faults, where_typed, where_both}
use Rattle.qz_types.specs.Declarations.{declared, double_names, local_variables}
use Rattle.qz_types.specs.ExpressionTypes.{told}
use Rattle.qz_types.specs.ArgumentFaults.{is_writable, call_faults, formals_of}

-- a condition, which is bool
abbrev pub condition_faults : Meanings Variable → Cond → List Fault
condition_faults names condition =
    (told names condition.expr).faults ++ where_typed (told names condition.expr).ty (λ t. unless (is_bool t) TypeDiffers condition.at)

-- the type of a name, if it stands for a variable that has one
abbrev pub type_named : Option Variable → Option Ty
type_named v = option_and_then (λ (variable : Variable). variable.ty) v

-- a name that is written, which is no input
abbrev pub written_faults : Option Variable → ℕ → List Fault
written_faults None at = fault_at UnknownName at ∷ []
written_faults (Some v) at = unless (is_writable v.dir) WriteToInput at

-- an assignment: its target, its value, and both sides of one type
abbrev pub assignment_faults : Meanings Variable → Target → ℕ → FileExpr → List Fault
assignment_faults names target equals value =
    written_faults (names target.name.name) target.name.at
    ++ ((told names value).faults
    ++ where_both (type_named (names target.name.name)) (told names value).ty (λ s t. unless (is_same_type s t) TypeDiffers equals))

-- `emit`, of a bool
abbrev pub emission_faults : Meanings Variable → Target → List Fault
emission_faults names target =
    written_faults (names target.name.name) target.name.at
    ++ where_typed (type_named (names target.name.name)) (λ t. unless (is_bool t) TypeDiffers target.name.at)

-- what is said against a statement where names stand for some variables
abbrev pub Said : Type 0
Said = Meanings Variable → List Fault

-- one statement, given what is said of its parts
abbrev pub node_faults : List FileProto → Meanings ℕ → FileStmt-F Said Said → Said
node_faults protos callees FileStmt-F.Nothing names = []
node_faults protos callees (FileStmt-F.Pause label) names = []
node_faults protos callees (FileStmt-F.Halt label) names = []
node_faults protos callees (FileStmt-F.Await label immediate condition) names = condition_faults names condition
node_faults protos callees (FileStmt-F.Assign target equals value) names = assignment_faults names target equals value
node_faults protos callees (FileStmt-F.Emit target) names = emission_faults names target
node_faults protos callees (FileStmt-F.Block block) names = block names
node_faults protos callees (FileStmt-F.If condition first second) names =
    condition_faults names condition ++ (first names ++ option_map_or (λ (said : Said). said names) second [])
node_faults protos callees (FileStmt-F.DoWhile body condition) names = body names ++ condition_faults names condition
node_faults protos callees (FileStmt-F.While condition body) names = condition_faults names condition ++ body names
node_faults protos callees (FileStmt-F.Loop body) names = body names
node_faults protos callees (FileStmt-F.Every condition body) names = condition_faults names condition ++ body names
node_faults protos callees (FileStmt-F.Abort kind body condition) names = body names ++ condition_faults names condition
node_faults protos callees (FileStmt-F.Suspend kind body condition) names = body names ++ condition_faults names condition
node_faults protos callees (FileStmt-F.Call callee arguments) names =
    call_faults names callee.at arguments (formals_of protos callees callee.name)

-- a block: its widths, its names, and its lists, in which they stand for its locals
abbrev pub block_faults : FileBlock-F Said Said → Said
block_faults block names =
    flat_map (λ (decl : FileDecl). type_faults decl.ty) block.decls
    ++ (double_names (local_variables block.decls) names
    ++ flat_map (λ list. flat_map (λ (said : Said). said (declared (local_variables block.decls) names)) list) block.lists)

-- what is said against a statement, with these prototypes and the numbers that their names stand for
abbrev pub statement_faults : List FileProto → Meanings ℕ → FileStmt → Said
statement_faults protos callees = fold-FileStmt Said Said (node_faults protos callees) block_faults
