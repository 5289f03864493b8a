-- All that is said against a file.
use Rattle.std.specs.Prelude.{ℕ, List, [], ◌∷◌, ◌++◌, Option, Some, None, map, Contains}
use Rattle.std.specs.Option.{option_to_list, option_map_or, is_none}
use Rattle.std.specs.List.{flat_map}
use Rattle.qz_syntax.specs.declared.file_expressions.NameAt.{NameAt}
use Rattle.qz_syntax.specs.declared.file_statements.FileBlock.{FileBlock}
use Rattle.qz_syntax.specs.declared.file_statements.FileStmt.{FileStmt}
use Rattle.qz_syntax.specs.declared.file_statements.FileStmt.TheVariants.{Block}
use Rattle.qz_syntax.specs.declared.file_statements.FileStmt.TheOpen.{FileStmt-F, FileBlock-F}
use Rattle.qz_syntax.specs.declared.file_statements.FileStmt.TheFolds.{fold-FileStmt}
use Rattle.qz_syntax.specs.declared.files.File.{File}
use Rattle.qz_syntax.specs.declared.files.FileProto.{FileProto}
use Rattle.qz_types.specs.declared.faults.Fault.{Fault}
use Rattle.qz_types.specs.declared.faults.TypeKind.{TypeKind}
use Rattle.qz_types.specs.declared.faults.TypeKind.TheVariants.{DoubleName}
use Rattle.qz_types.specs.Faults.{fault_at, unless}
use Rattle.qz_types.specs.Meanings.{Meanings, no_meanings}
use Rattle.qz_types.specs.Declarations.{declared, double_names, formal_variables, formal_faults, proto_numbers, label_names}
use Rattle.qz_types.specs.StatementFaults.{Said, statement_faults}

-- a statement's own label, and those of its parts
abbrev pub node_labels : FileStmt-F (List NameAt) (List NameAt) → List NameAt
node_labels (FileStmt-F.Pause label) = option_to_list label
node_labels (FileStmt-F.Halt label) = option_to_list label
node_labels (FileStmt-F.Await label immediate condition) = option_to_list label
node_labels (FileStmt-F.Block block) = block
node_labels (FileStmt-F.If condition first second) = first ++ option_map_or (λ labels. labels) second []
node_labels (FileStmt-F.DoWhile body condition) = body
node_labels (FileStmt-F.While condition body) = body
node_labels (FileStmt-F.Loop body) = body
node_labels (FileStmt-F.Every condition body) = body
node_labels (FileStmt-F.Abort kind body condition) = body
node_labels (FileStmt-F.Suspend kind body condition) = body
node_labels other = []

abbrev pub block_labels : FileBlock-F (List NameAt) (List NameAt) → List NameAt
block_labels block = flat_map (λ list. flat_map (λ (labels : List NameAt). labels) list) block.lists

-- the labels in a statement, in the order of the text
abbrev pub labels_of : FileStmt → List NameAt
labels_of = fold-FileStmt (List NameAt) (List NameAt) node_labels block_labels

-- a module's body, as a statement
abbrev pub body_of : File → FileStmt
body_of file = Block file.body

-- what names of modules stand for
abbrev pub callees_of : List FileProto → Meanings ℕ
callees_of protos = declared (proto_numbers 0 protos) no_meanings

-- all that is said against a file: its prototypes, the module's name and formals, its body, and its labels
abbrev pub faults_of : File → List Fault
faults_of file =
    flat_map (λ (proto : FileProto). formal_faults proto.formals) file.protos
    ++ (double_names (proto_numbers 0 file.protos) no_meanings
    ++ (unless (is_none (callees_of file.protos file.module.name.name)) DoubleName file.module.name.at
    ++ (formal_faults file.module.formals
    ++ (statement_faults file.protos (callees_of file.protos) (body_of file) (declared (formal_variables file.module.formals) no_meanings)
    ++ double_names (label_names (labels_of (body_of file))) no_meanings))))

-- a fault of a file, by its offset and its kind
abbrev pub IsFault : File → ℕ → TypeKind → Type 0
IsFault file offset kind = Contains (faults_of file) (fault_at kind offset)
