-- What the declaration of some locals does to names and numbers.
use Rattle.std.specs.Prelude.{◌≡◌, ℕ, List, ◌++◌, length}
use Rattle.std.specs.List.{range_with_len}
use Rattle.qz_syntax.specs.declared.declarations.Decl.{Decl}
use Rattle.qz_syntax.specs.declared.expressions.Var.{Var}
use Rattle.qz_syntax.specs.declared.file_expressions.NameAt.{NameAt}
use Rattle.qz_types.specs.declared.numbers.Numbers.{Numbers}
use Rattle.qz_types.specs.declared.core_declarations.Locals.{Locals}
use Rattle.qz_types.specs.Meanings.{Meanings, before}
use Rattle.qz_types.specs.Declarations.{declared}
use Rattle.qz_types.specs.CoreDeclarations.{local_numbers}
use Rattle.qz_types.specs.Makers.{with_locals}

-- these names are declared as these locals: what names stand for, what was numbered, and the locals of
-- a scope with what their names stood for, each before and after
pub record DeclaresLocals (declared_names : List NameAt) (decls : List Decl) (old new : Meanings Var) (n m : Numbers) (was now : Locals) : Type 0 where
  pub as_many : length decls ≡ length declared_names
  pub names : new ≡ declared (local_numbers (length n.decls) declared_names) old
  pub next : m ≡ with_locals n decls
  pub numbers : now.numbers ≡ was.numbers ++ range_with_len (length n.decls) (length declared_names)
  pub undone : before now.hidden new ≡ before was.hidden old
