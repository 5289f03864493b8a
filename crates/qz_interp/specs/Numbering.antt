-- Instances that have numbers: their places in a list in which each stands once.
use Rattle.std.specs.Prelude.{◌≡◌, ℕ, true, List, Some, slice_get}
use Rattle.qz_syntax.specs.declared.modules.Module.{Module}
use Rattle.qz_syntax.specs.WellFormed.{IsNumbered}
use Rattle.qz_meaning.specs.Instances.{Instance, is_same_instance}
use Rattle.qz_meaning.specs.Programs.{instances_of}

-- no instance stands at two places
abbrev pub AreDistinct : List Instance → Type 0
AreDistinct instances = (j k : ℕ) (a b : Instance) → slice_get instances j ≡ Some a → slice_get instances k ≡ Some b
    → is_same_instance a b ≡ true → j ≡ k

-- in a module that is numbered in tree order each instance has one number
abbrev pub InstancesAreDistinct : Type 0
InstancesAreDistinct = (m : Module) → IsNumbered m → AreDistinct (instances_of m)
