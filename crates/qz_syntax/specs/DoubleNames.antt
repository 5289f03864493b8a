-- Where two things of one sort have one name.
use Rattle.std.specs.Prelude.{◌≡◌, ℕ, Bool, true, false, ◌&&◌, not, List, [], ◌∷◌, ◌++◌, map, Option, slice_get}
use Rattle.std.specs.Option.{option_map}
use Rattle.std.specs.List.{list_all, list_any, filter_map}
use Rattle.std.specs.Str.{bytes_eq}
use Rattle.qz_syntax.specs.declared.declarations.Formal.{Formal}
use Rattle.qz_syntax.specs.declared.declarations.Decl.{Decl}
use Rattle.qz_syntax.specs.declared.declarations.Proto.{Proto}
use Rattle.qz_syntax.specs.declared.names.Name.{Name}
use Rattle.qz_syntax.specs.declared.modules.Module.{Module}
use Rattle.qz_syntax.specs.declared.modules.Typed.{Typed}
use Rattle.qz_syntax.specs.declared.statements.Stmt.{Stmt}
use Rattle.qz_syntax.specs.declared.statements.Stmt.TheOpen.{Stmt-F}
use Rattle.qz_syntax.specs.declared.statements.Stmt.TheFolds.{fold-Stmt}
use Rattle.qz_syntax.specs.Numbers.{parts_of}

-- whether the name is one of those; names are compared character by character
abbrev pub is_among : List Name → Name → Bool
is_among names name = list_any (λ other. bytes_eq other name) names

-- whether no name is that of one after it
abbrev pub are_distinct : List Name → Bool
are_distinct [] = true
are_distinct (name ∷ names) = not (is_among names name) && are_distinct names

-- the names of some formals
abbrev pub formal_names : List Formal → List Name
formal_names formals = map (λ (formal : Formal). formal.name) formals

-- the names of some prototypes
abbrev pub proto_names : List Proto → List Name
proto_names protos = map (λ (proto : Proto). proto.name) protos

-- the labels that there are
abbrev pub label_names : List (Option Name) → List Name
label_names labels = filter_map (λ label. label) labels

-- the names of some locals
abbrev pub local_names : List Decl → List ℕ → List Name
local_names decls locals = filter_map (λ local. option_map (λ (decl : Decl). decl.name) (slice_get decls local)) locals

-- one statement, below some names: a scope's locals differ from those and from one another
abbrev pub node_names_differ : List Decl → Stmt-F (List Name → Bool) → List Name → Bool
node_names_differ decls (Stmt-F.Scope locals body) above =
    are_distinct (local_names decls locals)
    && (list_all (λ name. not (is_among above name)) (local_names decls locals) && body (local_names decls locals ++ above))
node_names_differ decls other above = list_all (λ part. part above) (parts_of other)

-- whether each local differs in name from the names above, from the locals of its block and from those of the scopes round it
abbrev pub names_differ : List Decl → Stmt → List Name → Bool
names_differ decls = fold-Stmt (List Name → Bool) (node_names_differ decls)

-- a module in which no formal, local or label has the name of an earlier one of its sort that it may not have
pub record HasDistinctNames (m : Module) : Type 0 where
  pub formals : are_distinct (formal_names m.formals) ≡ true
  pub locals : names_differ m.decls m.body (formal_names m.formals) ≡ true
  pub labels : are_distinct (label_names m.labels) ≡ true

-- prototypes of which no two, and no two formals of one, have one name, and none has the module's
pub record HasDistinctProtos (t : Typed) : Type 0 where
  pub protos : are_distinct (proto_names t.protos) ≡ true
  pub formals : list_all (λ (proto : Proto). are_distinct (formal_names proto.formals)) t.protos ≡ true
  pub module_name : is_among (proto_names t.protos) t.module.name ≡ false
