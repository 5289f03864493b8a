use Rattle.std.proofs.Common.{List, refl, ap, ◌∙◌}
use Rattle.qz_syntax.specs.declared.places.Place.TheVariants.{NotStarted}
use Rattle.qz_syntax.specs.declared.places.Store.{Store}
use Rattle.qz_meaning.specs.Configurations.{Configuration}
use Rattle.qz_interp.proofs.KeepingLemmas.{first_kept}
use Rattle.qz_interp.proofs.machine.Machine.make.Goals as goal

pub returns-in-Ok : goal.returns-in-Ok
returns-in-Ok c =
    let at = λ (stores : List Store). let start : Configuration = record { place = NotStarted; outputs = stores } in start in
    record { program = refl; configuration = ap at (c.in-Ok.ensures.outputs ∙ first_kept c.args.w.module) }
