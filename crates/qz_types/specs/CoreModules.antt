-- The prototypes of a file, and its module with the core tree of its body.
use Rattle.std.specs.Prelude.{ℕ, List, [], map, Option}
use Rattle.qz_syntax.specs.declared.expressions.Var.{Var}
use Rattle.qz_syntax.specs.declared.files.File.{File}
use Rattle.qz_syntax.specs.declared.files.FileFormal.{FileFormal}
use Rattle.qz_syntax.specs.declared.modules.Module.{Module}
use Rattle.qz_syntax.specs.declared.modules.Typed.{Typed}
use Rattle.qz_types.specs.declared.numbers.Numbers.{Numbers}
use Rattle.qz_types.specs.Meanings.{Meanings, no_meanings}
use Rattle.qz_types.specs.Declarations.{declared}
use Rattle.qz_types.specs.FileFaults.{body_of, callees_of}
use Rattle.qz_types.specs.CoreDeclarations.{core_formal, core_proto, formal_numbers}
use Rattle.qz_types.specs.CoreStatements.{made}
use Rattle.qz_types.specs.Makers.{Made}

-- nothing is numbered yet
abbrev pub no_numbers : Numbers
no_numbers = record { labels = []; decls = []; loops = 0; calls = 0 }

-- at the root of a body names stand for the formals
abbrev pub root_names : List FileFormal → Meanings Var
root_names formals = declared (formal_numbers 0 formals) no_meanings

-- the core tree of a file's body
abbrev pub core_body : File → Made
core_body file = made file.protos (callees_of file.protos) (body_of file) (root_names file.module.formals) no_numbers

-- a module of which this is the body
abbrev pub module_with : File → Made → Module
module_with file body = record {
  name = file.module.name.name;
  formals = map core_formal file.module.formals;
  decls = body.next.decls;
  labels = body.next.labels;
  loops = body.next.loops;
  calls = body.next.calls;
  body = body.tree;
}

-- the prototypes of a file, and its module
abbrev pub core_of : File → Typed
core_of file = record { protos = map core_proto file.protos; «module» = module_with file (core_body file) }
