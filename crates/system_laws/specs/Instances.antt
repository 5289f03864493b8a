-- What is known at the instances of a system: the same, or no less.
use Rattle.std.specs.Prelude.{ℕ, ◌≡◌, List, Some, slice_get, slice_index_or}
use Rattle.qz_values.specs.declared.Know.{Know}
use Rattle.qz_values.specs.declared.Know.TheVariants.{Unknown}
use Rattle.qz_values.specs.Order.{Below}
use Rattle.qz_syntax.specs.declared.places.Later.{Later}
use Rattle.qz_syntax.specs.declared.places.Later.TheVariants as later
use Rattle.qz_meaning.specs.Rising.{LaterBelow}
use Rattle.qz_system.specs.declared.parts.Inst.{Inst}
use Rattle.qz_system.specs.declared.parts.SystemParts.{SystemParts}

-- at each instance both lists have the same
pub record AgreeAt (parts : SystemParts) (knows others : List Know) (delayed later_others : List Later) : Type 0 where
  pub now : (n : ℕ) (one : Inst) → slice_get parts.instances n ≡ Some one → slice_get knows n ≡ slice_get others n
  pub later : (n : ℕ) (one : Inst) → slice_get parts.instances n ≡ Some one → slice_get delayed n ≡ slice_get later_others n

-- of no instance less is known in the second list
abbrev pub KnowsBelow : SystemParts → List Know → List Know → Type 0
KnowsBelow parts knows others = (n : ℕ) (one : Inst) → slice_get parts.instances n ≡ Some one
    → Below (slice_index_or knows n Unknown) (slice_index_or others n Unknown)

-- nor of a delayed value
abbrev pub LatersBelow : SystemParts → List Later → List Later → Type 0
LatersBelow parts delayed others = (n : ℕ) (one : Inst) → slice_get parts.instances n ≡ Some one
    → LaterBelow (slice_index_or delayed n later.Unknown) (slice_index_or others n later.Unknown)

-- nor of either
pub record BelowAt (parts : SystemParts) (knows others : List Know) (delayed later_others : List Later) : Type 0 where
  pub now : KnowsBelow parts knows others
  pub later : LatersBelow parts delayed later_others
