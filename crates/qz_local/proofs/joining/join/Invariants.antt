use Rattle.std.proofs.Common.{◌≡◌, drop}
use Rattle.qz_values.specs.declared.Know.TheVariants.{Known}
use Rattle.qz_values.specs.Values.{no}
use Rattle.qz_control.specs.Circuits.{View, Views, Means, Grows, IsBool}
use Rattle.qz_moves.specs.declared.spots.Rest.{Rest}
use Rattle.qz_moves.specs.Appended.{read_spots, AreTests}
use Rattle.qz_local.specs.Joined.{joined}
use Rattle.qz_local.specs.Nets.{next_known, HasBools}
use Rattle.qz_local.proofs.joining.join.Given as goal

-- what is left, joined to what is known so far, gives what all give
abbrev pub invariant-loop-spot : goal.invariant-loop-spot
invariant-loop-spot l = record {
  grows : Grows l.fn.circuit l.circuit;
  never : IsBool l.circuit l.never;
  never_so : Means l.circuit l.never (λ v. Known no);
  bools : HasBools l.circuit l.all;
  tests : AreTests l.circuit (drop l.spot-index l.spots);
  joins : (v : View) → Views v l.circuit → (one : Rest)
      → joined one (next_known v l.all one) (read_spots v (drop l.spot-index l.spots)) ≡ joined one (Known no) (read_spots v l.spots);
}
