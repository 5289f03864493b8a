-- What holds of a typed source of any depth.
use Rattle.std.specs.Prelude.{◌≤◌, IsTrue, length}
use Rattle.std.specs.List.{list_all}
use Rattle.qz_values.specs.Types.{is_type}
use Rattle.qz_syntax.specs.declared.declarations.Decl.{Decl}
use Rattle.qz_syntax.specs.declared.declarations.Proto.{Proto}
use Rattle.qz_syntax.specs.declared.modules.Typed.{Typed}
use Rattle.qz_syntax.specs.Numbers.{holds_of, is_unbound}
use Rattle.qz_syntax.specs.DoubleNames.{HasDistinctNames, HasDistinctProtos}
use Rattle.qz_syntax.specs.Typing.{no_sight}
use Rattle.qz_syntax.specs.Sound.{is_sound}
use Rattle.qz_syntax.specs.WellFormed.{IsNumbered, declared_by, is_unlabelled, have_types, has_few_formals}

-- numbers count in tree order, hold places have no label, types are those that there are, statements are sound,
-- formals are not too many, and no formal, local, label or prototype has the name of one from which it has to differ
pub record IsOrderly (t : Typed) : Type 0 where
  pub numbered : IsNumbered t.«module»
  pub unlabelled : IsTrue (list_all (is_unlabelled t.«module».labels) (holds_of t.«module».body))
  pub unbound : IsTrue (is_unbound t.«module».body)
  pub proto_types : IsTrue (list_all (λ (proto : Proto). have_types proto.formals) t.protos)
  pub formal_types : IsTrue (have_types t.«module».formals)
  pub local_types : IsTrue (list_all (λ (decl : Decl). is_type decl.ty) t.«module».decls)
  pub sound : IsTrue (is_sound (declared_by t.protos t.«module») t.«module».body no_sight)
  pub proto_formals : IsTrue (list_all has_few_formals t.protos)
  pub formals : length t.«module».formals ≤ 256
  pub protos : HasDistinctProtos t
  pub names : HasDistinctNames t.«module»
