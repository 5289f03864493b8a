-- Where control rests in a choice, from where it does in its sides.
use Rattle.std.proofs.Common.{◌≡◌, ℕ, Bool, sym, ap, ap₂, ◌∙◌}
use Rattle.qz_system.specs.declared.shape.Shape.{Shape}
use Rattle.qz_system.specs.declared.shape.Shape.TheVariants as shape
use Rattle.qz_system.specs.declared.shape.Shape.TheOpen.{Shape-F}
use Rattle.qz_system.specs.declared.shape.Shape.TheFolds.{fold-Shape, fold-roll-Shape}
use Rattle.qz_system.specs.declared.resting.Resting.{Resting}
use Rattle.qz_system.specs.Restings.{or_in, node_resting, resting_of}

resting_if : (bits : ℕ → Bool) (first second : Shape)
    → resting_of bits (shape.If first second) ≡ or_in (resting_of bits first) (resting_of bits second)
resting_if bits first second =
    ap (resting_of bits) (sym (shape.rolls-If first second)) ∙ fold-roll-Shape Resting (node_resting bits) (Shape-F.If first second)

pub resting_choice : (bits : ℕ → Bool) (s first second one two : Shape) (r a b : Resting)
    → s ≡ shape.If first second → one ≡ first → two ≡ second
    → a ≡ resting_of bits one → b ≡ resting_of bits two → r ≡ or_in a b → r ≡ resting_of bits s
resting_choice bits s first second one two r a b is one_is two_is a_is b_is r_is =
    r_is ∙ ap₂ or_in (a_is ∙ ap (resting_of bits) one_is) (b_is ∙ ap (resting_of bits) two_is)
    ∙ sym (ap (resting_of bits) is ∙ resting_if bits first second)
