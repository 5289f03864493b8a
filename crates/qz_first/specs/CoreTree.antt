-- The core tree of a source: names become numbers, lists become sequences, and places and loops are numbered.
use Rattle.std.specs.Prelude.{ℕ, ◌≡◌, ◌+◌, ◌≤◌, Bool, true, List, [], ◌∷◌, length, map, position, replicate, Option, None, is_some, unwrap_or, IsTrue, bytes_eq}
use Rattle.std.specs.List.{list_all}
use Rattle.std.specs.Str.{chars}
use Rattle.qz_values.specs.Values.{yes}
use Rattle.qz_syntax.specs.declared.expressions.Expr.TheVariants.{Lit}
use Rattle.qz_syntax.specs.declared.expressions.Var.TheVariants as variable
use Rattle.qz_syntax.specs.declared.statements.Stmt.{Stmt}
use Rattle.qz_syntax.specs.declared.statements.Stmt.TheVariants as stmt
use Rattle.qz_syntax.specs.declared.modules.Module.{Module}
use Rattle.qz_syntax.specs.Sizes.{size_of}
use Rattle.qz_syntax.specs.DoubleNames.{formal_names, are_distinct}
use Rattle.qz_first.specs.Limits.{most_formals, largest_module}
use Rattle.qz_first.specs.declared.source.SourceModule.{SourceModule}
use Rattle.qz_first.specs.declared.source.SourceStmt.{SourceStmt}
use Rattle.qz_first.specs.declared.source.SourceStmt.TheOpen.{SourceStmt-F}
use Rattle.qz_first.specs.declared.source.SourceStmt.TheFolds.{fold-SourceStmt}

-- the number of a name among these
abbrev pub number_of : List (List ℕ) → List ℕ → Option ℕ
number_of names name = position (bytes_eq name) names

-- whether what is emitted is among these names
abbrev pub node_emits : List (List ℕ) → SourceStmt-F Bool → Bool
node_emits names SourceStmt-F.Nothing = true
node_emits names SourceStmt-F.Pause = true
node_emits names (SourceStmt-F.Emit name) = is_some (number_of names name)
node_emits names (SourceStmt-F.Loop body) = body
node_emits names (SourceStmt-F.Block parts) = list_all (λ part. part) parts

abbrev pub emits_among : List (List ℕ) → SourceStmt → Bool
emits_among names = fold-SourceStmt Bool (node_emits names)

-- a core statement, and how many places and loops stand before what follows it
pub record Core : Type 0 where
  pub stmt : Stmt
  pub places : ℕ
  pub loops : ℕ

-- the same of some statements
pub record Cores : Type 0 where
  pub stmts : List Stmt
  pub places : ℕ
  pub loops : ℕ

-- statements one after the other
abbrev pub in_order : List (ℕ → ℕ → Core) → ℕ → ℕ → Cores
in_order [] places loops = record { stmts = []; places = places; loops = loops }
in_order (part ∷ parts) places loops =
    let first = part places loops in
    let later = in_order parts first.places first.loops in
    record { stmts = first.stmt ∷ later.stmts; places = later.places; loops = later.loops }

-- a list as one statement: none is `nothing`, one is itself
abbrev pub sequence : List Stmt → Stmt
sequence [] = stmt.Nothing
sequence (s ∷ []) = s
sequence (s ∷ t ∷ more) = stmt.Seq (s ∷ t ∷ more)

-- one statement, given its parts and how many places and loops stand before it; `emit x` is `x = true`
abbrev pub node_core : List (List ℕ) → SourceStmt-F (ℕ → ℕ → Core) → ℕ → ℕ → Core
node_core names SourceStmt-F.Nothing places loops = record { stmt = stmt.Nothing; places = places; loops = loops }
node_core names SourceStmt-F.Pause places loops = record { stmt = stmt.Pause places; places = places + 1; loops = loops }
node_core names (SourceStmt-F.Emit name) places loops = record {
  stmt = stmt.Assign (variable.Formal (unwrap_or (number_of names name) 0)) (Lit yes);
  places = places;
  loops = loops;
}
node_core names (SourceStmt-F.Loop body) places loops =
    let inner = body places (loops + 1) in
    record { stmt = stmt.Loop loops inner.stmt (Lit yes); places = inner.places; loops = inner.loops }
node_core names (SourceStmt-F.Block parts) places loops =
    let inner = in_order parts places loops in
    record { stmt = sequence inner.stmts; places = inner.places; loops = inner.loops }

abbrev pub core : List (List ℕ) → SourceStmt → ℕ → ℕ → Core
core names = fold-SourceStmt (ℕ → ℕ → Core) (node_core names)

abbrev pub cores : List (List ℕ) → List SourceStmt → ℕ → ℕ → Cores
cores names parts = in_order (map (core names) parts)

-- the module that a source describes
abbrev pub core_module : SourceModule → Module
core_module source =
    let body = cores (formal_names source.formals) source.body 0 0 in
    record {
      name = source.name;
      formals = source.formals;
      decls = [];
      labels = replicate body.places None;
      loops = body.loops;
      calls = 0;
      body = sequence body.stmts;
    }

-- The source has the name that was asked for, no more formals than may be, whose names differ, what it emits are
-- formals, and it is no larger than may be.
pub record IsAsked (name : List ℕ) (source : SourceModule) : Type 0 where
  pub named : source.name ≡ chars name
  pub few : length source.formals ≤ most_formals
  pub differ : IsTrue (are_distinct (formal_names source.formals))
  pub emits : IsTrue (list_all (λ emits. emits) (map (emits_among (formal_names source.formals)) source.body))
  pub small : size_of (core_module source) ≤ largest_module
