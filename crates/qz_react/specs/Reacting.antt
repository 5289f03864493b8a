-- What the walk of a step does, by the numbers of instances.
use Rattle.std.specs.Prelude.{◌≡◌, ℕ, List, ◌++◌, map, Some, slice_get}
use Rattle.qz_values.specs.declared.Value.{Value}
use Rattle.qz_values.specs.declared.Know.{Know}
use Rattle.qz_values.specs.declared.Know.TheVariants.{Known}
use Rattle.qz_values.specs.Values.{yes}
use Rattle.qz_syntax.specs.declared.declarations.Dir.TheVariants as dir
use Rattle.qz_syntax.specs.declared.modules.Module.{Module}
use Rattle.qz_syntax.specs.declared.places.Later.{Later}
use Rattle.qz_syntax.specs.declared.places.Mark.TheVariants as mark
use Rattle.qz_syntax.specs.declared.places.Place.{Place}
use Rattle.qz_syntax.specs.declared.places.Place.TheVariants as place
use Rattle.qz_meaning.specs.Instances.{Instance as OfMeaning, formal_instance}
use Rattle.qz_meaning.specs.Scenes.{root}
use Rattle.qz_meaning.specs.Residing.{Walk}
use Rattle.qz_meaning.specs.Programs.{Program, formals_of, instances_of}
use Rattle.qz_meaning.specs.Settling.{Environment, body_under, writes_at}
use Rattle.qz_react.specs.declared.environments.Env.{Env}
use Rattle.qz_react.specs.declared.environments.Write.{Write}
use Rattle.qz_react.specs.declared.walker.Walker.{Walker}
use Rattle.qz_react.specs.Contexts.{context_of}
use Rattle.qz_react.specs.Seeing.{instance_of, written}

-- What the lists of an environment tell: the values of inputs in their order, and what is known of instances in
-- theirs. Nothing is said of what isn't an instance of the program.
pub record Tells (p : Program) (env : Env) (e : Environment) : Type 0 where
  pub inputs : (k n : ℕ) (v : Value) → slice_get p.inputs k ≡ Some n → slice_get env.inputs.items k ≡ Some v
      → e.now (formal_instance n) ≡ Known v
  pub now : (k : ℕ) (i : OfMeaning) (known : Know) → slice_get p.instances k ≡ Some i → slice_get env.now.items k ≡ Some known
      → e.now i ≡ known
  pub later : (k : ℕ) (i : OfMeaning) (known : Later) → slice_get p.instances k ≡ Some i → slice_get env.later.items k ≡ Some known
      → e.later i ≡ known

-- whether the program ends in this step
abbrev pub ends_at : Walk → Place → Know
ends_at body place.NotStarted = body.ends root mark.Zero
ends_at body (place.Rest r) = body.ended root r
ends_at body place.Ended = Known yes

-- the writes that are added are those of the walk from the place, and the answer is whether it ends
pub record Reacts (p : Program) (at : Place) (before after : List Write) (answer : Know) (e : Environment) : Type 0 where
  pub writes : map (written p.instances) after ≡ map (written p.instances) before ++ map Some (writes_at (body_under p e) at)
  pub ends : answer ≡ ends_at (body_under p e) at

-- what a walker of a module keeps: its inputs and instances by number, and the context at the root between walks
pub record IsWalkerOf (m : Module) (walker : Walker) : Type 0 where
  pub inputs : walker.table.inputs.items ≡ formals_of dir.In m
  pub instances : map instance_of walker.table.all.items ≡ instances_of m
  pub at_root : context_of walker.here ≡ root
