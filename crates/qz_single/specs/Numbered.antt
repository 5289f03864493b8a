-- The numbers of instances, each by its first place in a list.
use Rattle.std.specs.Prelude.{ℕ, ◌≡◌, ◌+◌, List, [], ◌∷◌, Option, Some, None, map, length, if◌then◌else◌}
use Rattle.indexmap.specs.IndexMap.{get}
use Rattle.qz_syntax.specs.declared.declarations.Dir.TheVariants as dir
use Rattle.qz_syntax.specs.declared.modules.Module.{Module}
use Rattle.qz_meaning.specs.Instances.{Instance, is_same_instance, formal_instance}
use Rattle.qz_meaning.specs.Programs.{formals_of, instances_of}
use Rattle.qz_react.specs.Seeing.{instance_of}
use Rattle.qz_react.specs.declared.instances.Instance.{Instance as Named}
use Rattle.qz_react.specs.contracts.instances.InstancePartialEq.TheImpl.{eq-value}
use Rattle.qz_single.specs.declared.numbers.Numbers.{Numbers}
use Rattle.qz_single.specs.declared.numbering.Numbering.{Numbering}

-- the first place of an instance in a list whose first place is this
abbrev pub place_from : ℕ → Instance → List Instance → Option ℕ
place_from n i [] = None
place_from n i (one ∷ others) = if is_same_instance one i then Some n else place_from (n + 1) i others

-- the numbers are those of this list
pub record AreNumbersOf (instances : List Instance) (numbers : Numbers) : Type 0 where
  pub first : (i : Named) → get (eq-value).it numbers.first i ≡ place_from 0 (instance_of i) instances
  pub count : numbers.count ≡ length instances

-- the numbers by which a system has what a module's nets speak of
pub record IsNumbering (m : Module) (numbering : Numbering) : Type 0 where
  pub inputs : AreNumbersOf (map formal_instance (formals_of dir.In m)) numbering.inputs
  pub outputs : AreNumbersOf (map formal_instance (formals_of dir.Out m)) numbering.outputs
  pub instances : AreNumbersOf (instances_of m) numbering.instances
