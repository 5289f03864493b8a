use Rattle.std.proofs.Common.{◌∙◌, ap}
use Rattle.std.specs.List.{list_any}
use Rattle.qz_values.specs.declared.Know.TheVariants.{Known}
use Rattle.qz_values.specs.Values.{no}
use Rattle.qz_control.specs.Leaves.{known_bit}
use Rattle.qz_moves.specs.Appended.{read_spots}
use Rattle.qz_local.specs.Joined.{says, joined}
use Rattle.qz_local.proofs.Plainly.{said}
use Rattle.qz_local.proofs.whole.nexts_of_start.Goals as goal

pub returns-clause-nexts : goal.returns-clause-nexts
returns-clause-nexts c = λ v answers started dropped views leaves plain is_started is_dropped one.
    let before = c.in_ok-all.ensures.grows.views v views in
    c.in_ok-all.ensures.joins v views one ∙ ap (λ spots. joined one (Known no) (read_spots v spots)) c.deref.ensures.value
    ∙ said c.spots_of_start.new.circuit v before leaves c.in_ok-spots.spots.items c.in_ok-spots.ensures.tests one
    ∙ ap (λ spots. known_bit (list_any (says one) spots)) (c.in_ok-spots.ensures.spots v answers started dropped before plain is_started is_dropped)
