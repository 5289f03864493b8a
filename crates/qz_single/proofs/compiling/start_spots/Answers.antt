use Rattle.std.proofs.Common.{◌≡◌, Bool, true, false, ◌&&◌, not, refl, ap, ◌∙◌}
use Rattle.qz_values.specs.Knowledge.{opposite}
use Rattle.qz_syntax.specs.declared.places.Mark.TheVariants as mark
use Rattle.qz_meaning.specs.Scenes.{root}
use Rattle.qz_control.specs.Guarded.{when}
use Rattle.qz_control.proofs.Bits.{opposite_known}
use Rattle.qz_single.specs.Compiled.{walk_in}
use Rattle.qz_single.proofs.compiling.start_spots.Goals as goal

and_yes : (b : Bool) → (b && true) ≡ b
and_yes true = refl
and_yes false = refl

pub returns-clause-spots : goal.returns-clause-spots
returns-clause-spots c = λ v answers resumed views plain is.
    let at_never = c.in_ok-spots.ensures.grows.views v views in
    let at_start = c.in_ok-never.ensures.grows.views v at_never in
    c.in_ok-spots.ensures.spots v answers (not resumed) false views plain
    (c.in_ok-start.ensures.means v at_start ∙ ap opposite is ∙ opposite_known resumed) (c.in_ok-never.ensures.means v at_never)
    ∙ ap (λ b. when b ((walk_in c.args.m.now v answers).rest root mark.Zero)) (and_yes (not resumed))
