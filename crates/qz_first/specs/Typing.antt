-- What typing gives, and what it means that it gives none.
use Rattle.std.specs.Prelude.{ℕ, ◌≡◌, ◌^◌, ◌<◌, ◌≤◌, List, length, map, IsTrue}
use Rattle.std.specs.List.{list_all}
use Rattle.qz_syntax.specs.declared.statements.Stmt.{Stmt}
use Rattle.qz_first.specs.declared.typing.Counts.{Counts}
use Rattle.qz_first.specs.declared.source.SourceStmt.{SourceStmt}
use Rattle.qz_first.specs.CoreTree.{emits_among, core, cores}

-- the statement is the core of its source, and these are the counts after it
pub record IsCore (names : List (List ℕ)) (source : SourceStmt) (old : Counts) (made : Stmt) (new : Counts) : Type 0 where
  pub stmt : made ≡ (core names source old.places old.loops).stmt
  pub places : new.places ≡ (core names source old.places old.loops).places
  pub loops : new.loops ≡ (core names source old.places old.loops).loops
  pub emits : IsTrue (emits_among names source)

pub record AreCores (names : List (List ℕ)) (parts : List SourceStmt) (old : Counts) (made : List Stmt) (new : Counts) : Type 0 where
  pub stmts : made ≡ (cores names parts old.places old.loops).stmts
  pub places : new.places ≡ (cores names parts old.places old.loops).places
  pub loops : new.loops ≡ (cores names parts old.places old.loops).loops
  pub emits : IsTrue (list_all (λ emits. emits) (map (emits_among names) parts))

-- there is no core of these names, or the counts have no room for it
pub record NoCore (names : List (List ℕ)) (source : SourceStmt) (old : Counts) : Type 0 where
  pub none : length names ≤ 256 → IsTrue (emits_among names source)
      → (core names source old.places old.loops).places < 2 ^ 32 → (core names source old.places old.loops).loops < 2 ^ 32 → ⊥

pub record NoCores (names : List (List ℕ)) (parts : List SourceStmt) (old : Counts) : Type 0 where
  pub none : length names ≤ 256 → IsTrue (list_all (λ emits. emits) (map (emits_among names) parts))
      → (cores names parts old.places old.loops).places < 2 ^ 32 → (cores names parts old.places old.loops).loops < 2 ^ 32 → ⊥
