-- Which trees, modules and whole programs are well formed.
use Rattle.std.specs.Prelude.{◌≡◌, ℕ, ◌+◌, ◌≤◌, Bool, IsTrue, nat_le, List, [], length, Option, slice_get, option_and_then}
use Rattle.std.specs.Option.{is_none}
use Rattle.std.specs.List.{list_all, filter_map, range_with_len, sum_by}
use Rattle.qz_values.specs.Types.{is_type}
use Rattle.qz_syntax.specs.declared.declarations.Formal.{Formal}
use Rattle.qz_syntax.specs.declared.declarations.Decl.{Decl}
use Rattle.qz_syntax.specs.declared.declarations.Proto.{Proto}
use Rattle.qz_syntax.specs.declared.modules.Module.{Module}
use Rattle.qz_syntax.specs.declared.modules.Typed.{Typed}
use Rattle.qz_syntax.specs.declared.modules.Whole.{Whole}
use Rattle.qz_syntax.specs.declared.names.Name.{Name}
use Rattle.qz_syntax.specs.Endings.{instant_loops}
use Rattle.qz_syntax.specs.Marks.{marks_of_local}
use Rattle.qz_syntax.specs.Numbers.{places_of, holds_of, loops_of, locals_of, calls_of, arguments_of, depth_of, is_unbound}
use Rattle.qz_syntax.specs.Typing.{Declared, no_sight, formal_target}
use Rattle.qz_syntax.specs.Sound.{is_sound}
use Rattle.qz_syntax.specs.DoubleNames.{HasDistinctNames, HasDistinctProtos}

-- what the numbers in a module stand for
abbrev pub declared_by : List Proto → Module → Declared
declared_by protos m = record { protos = protos; formals = m.formals; decls = m.decls }

-- whether the place has no label
abbrev pub is_unlabelled : List (Option Name) → ℕ → Bool
is_unlabelled labels place = is_none (option_and_then (λ label. label) (slice_get labels place))

-- each kind of numbers counts in tree order from 0, as far as the module says
pub record IsNumbered (m : Module) : Type 0 where
  pub places : places_of m.body ≡ range_with_len 0 (length m.labels)
  pub loops : loops_of m.body ≡ range_with_len 0 m.loops
  pub locals : locals_of m.body ≡ range_with_len 0 (length m.decls)
  pub calls : calls_of m.body ≡ range_with_len 0 m.calls

-- whether the type of each formal is one that there is
abbrev pub have_types : List Formal → Bool
have_types formals = list_all (λ (formal : Formal). is_type formal.ty) formals

-- a module that is well formed beside some prototypes
pub record IsWellFormed (protos : List Proto) (m : Module) : Type 0 where
  pub numbered : IsNumbered m
  pub unlabelled : IsTrue (list_all (is_unlabelled m.labels) (holds_of m.body))
  pub proto_types : IsTrue (list_all (λ (proto : Proto). have_types proto.formals) protos)
  pub formal_types : IsTrue (have_types m.formals)
  pub local_types : IsTrue (list_all (λ (decl : Decl). is_type decl.ty) m.decls)
  pub sound : IsTrue (is_sound (declared_by protos m) m.body no_sight)

-- a module as it is compiled: also its names differ, it has at most 256 formals, and it isn't too deep
pub record IsModule (protos : List Proto) (m : Module) : Type 0 where
  pub well_formed : IsWellFormed protos m
  pub unbound : IsTrue (is_unbound m.body)
  pub names : HasDistinctNames m
  pub formals : length m.formals ≤ 256
  pub depth : depth_of m.body ≤ 600

-- whether a prototype has at most 256 formals
abbrev pub has_few_formals : Proto → Bool
has_few_formals proto = nat_le (length proto.formals) 256

-- a source after typing
pub record IsTyped (t : Typed) : Type 0 where
  pub is_module : IsModule t.protos t.module
  pub protos : HasDistinctProtos t
  pub formals : IsTrue (list_all has_few_formals t.protos)

-- how many instances a module has: one for each output, and one for each mark of each local
abbrev pub instance_count : Module → ℕ
instance_count m =
    length (filter_map formal_target m.formals)
    + sum_by (λ local. length (marks_of_local m local)) (range_with_len 0 (length m.decls))

-- a whole program: with no prototypes it has no call, and each bound argument has a number of its own
pub record IsWhole (w : Whole) : Type 0 where
  pub well_formed : IsWellFormed [] w.module
  pub arguments : arguments_of w.module.body ≡ range_with_len 0 (length (arguments_of w.module.body))
  pub place_texts : length w.names.places ≡ length w.module.labels
  pub local_texts : length w.names.locals ≡ length w.module.decls
  pub loop_texts : length w.names.loops ≡ w.module.loops
  pub no_instant_loop : instant_loops [] w.module.body ≡ []
  pub places : length w.module.labels ≤ 200000
  pub instances : instance_count w.module ≤ 200000
