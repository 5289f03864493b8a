-- An assignment of leaves: what is known of each kind. What is plain in every assignment is a bool.
use Rattle.std.specs.Prelude.{ℕ, Bool}
use Rattle.qz_values.specs.declared.Know.{Know}
use Rattle.qz_values.specs.declared.Know.TheVariants.{Known}
use Rattle.qz_values.specs.Values.{truth_of}
use Rattle.qz_meaning.specs.Instances.{formal_instance, local_instance}
use Rattle.qz_meaning.specs.Scenes.{Scene}
use Rattle.qz_meaning.specs.Layouts.{PlaceBits}
use Rattle.qz_meaning.specs.Calls.{Answers}
use Rattle.qz_control.specs.declared.leaves.LeafKind.{LeafKind}
use Rattle.qz_control.specs.declared.leaves.LeafKind.TheVariants as leaf

-- a plain bit as knowledge
abbrev pub known_bit : Bool → Know
known_bit b = Known (truth_of b)

pub record Leaves : Type 0 where
  -- the values of variables
  pub scene : Scene
  -- where control rests
  pub at : PlaceBits
  -- with what the module is started and resumed
  pub start : Know
  pub drop : Know
  pub act : Know
  pub stay : Know
  pub leave : Know
  -- what its calls answer
  pub may_end : ℕ → Bool
  pub answers : Answers

abbrev pub leaf_known : Leaves → LeafKind → Know
leaf_known leaves (leaf.Formal n) = leaves.scene (formal_instance n)
leaf_known leaves (leaf.Local n m) = leaves.scene (local_instance n m)
leaf_known leaves (leaf.At place) = known_bit (leaves.at.place place)
leaf_known leaves leaf.Start = leaves.start
leaf_known leaves leaf.Drop = leaves.drop
leaf_known leaves leaf.Act = leaves.act
leaf_known leaves leaf.Stay = leaves.stay
leaf_known leaves leaf.Leave = leaves.leave
leaf_known leaves (leaf.CallMayEnd n) = known_bit (leaves.may_end n)
leaf_known leaves (leaf.CallInside n) = known_bit (leaves.at.call n)
leaf_known leaves (leaf.CallEnds n) = leaves.answers.ends n
leaf_known leaves (leaf.CallEndsAtOnce n m) = leaves.answers.ends_at_once n m
