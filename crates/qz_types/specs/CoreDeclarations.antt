-- What a module declares in the core tree, and the numbers that its names stand for.
use Rattle.std.specs.Prelude.{ℕ, ◌+◌, List, [], ◌∷◌, map}
use Rattle.std.specs.List.{flat_map}
use Rattle.qz_syntax.specs.declared.declarations.Formal.{Formal}
use Rattle.qz_syntax.specs.declared.declarations.Decl.{Decl}
use Rattle.qz_syntax.specs.declared.declarations.Proto.{Proto}
use Rattle.qz_syntax.specs.declared.expressions.Var.{Var}
use Rattle.qz_syntax.specs.declared.expressions.Var.TheVariants as var
use Rattle.qz_syntax.specs.declared.file_expressions.NameAt.{NameAt}
use Rattle.qz_syntax.specs.declared.files.FileDecl.{FileDecl}
use Rattle.qz_syntax.specs.declared.files.FileFormal.{FileFormal}
use Rattle.qz_syntax.specs.declared.files.FileProto.{FileProto}
use Rattle.qz_types.specs.Declarations.{Declaration}
use Rattle.qz_types.specs.CoreExpressions.{core_type}

-- a formal, with its type
abbrev pub core_formal : FileFormal → Formal
core_formal formal = record { class = formal.class; dir = formal.dir; ty = core_type formal.ty; name = formal.name.name }

-- a prototype
abbrev pub core_proto : FileProto → Proto
core_proto proto = record { name = proto.name.name; formals = map core_formal proto.formals }

-- names of formals, each with its number from the first one's on
abbrev pub formal_numbers : ℕ → List FileFormal → List (Declaration Var)
formal_numbers number [] = []
formal_numbers number (formal ∷ formals) =
    record { name = formal.name; meaning = var.Formal number } ∷ formal_numbers (number + 1) formals

-- the names of some declarations
abbrev pub local_names : List FileDecl → List NameAt
local_names decls = flat_map (λ (decl : FileDecl). decl.names) decls

-- names of locals, each with its number from the first one's on
abbrev pub local_numbers : ℕ → List NameAt → List (Declaration Var)
local_numbers number [] = []
local_numbers number (name ∷ names) = record { name = name; meaning = var.Local number } ∷ local_numbers (number + 1) names

-- a local of a declaration
abbrev pub core_local : FileDecl → NameAt → Decl
core_local decl name = record { class = decl.class; ty = core_type decl.ty; name = name.name }

-- the locals of a declaration
abbrev pub core_decl : FileDecl → List Decl
core_decl decl = map (core_local decl) decl.names

-- the locals of some declarations
abbrev pub core_decls : List FileDecl → List Decl
core_decls decls = flat_map core_decl decls
