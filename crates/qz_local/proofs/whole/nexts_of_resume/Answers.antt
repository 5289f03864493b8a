use Rattle.std.proofs.Common.{◌∙◌, ap}
use Rattle.std.specs.List.{list_any}
use Rattle.qz_values.specs.declared.Know.TheVariants.{Known}
use Rattle.qz_values.specs.Values.{no}
use Rattle.qz_control.specs.Leaves.{known_bit}
use Rattle.qz_moves.specs.Appended.{read_spots}
use Rattle.qz_local.specs.Joined.{says, joined}
use Rattle.qz_local.proofs.Plainly.{said}
use Rattle.qz_local.proofs.whole.nexts_of_resume.Goals as goal

pub returns-clause-nexts : goal.returns-clause-nexts
returns-clause-nexts c = λ v answers r way views leaves plain at is_stay is_leave one.
    let before = c.in_ok-all.ensures.grows.views v views in
    c.in_ok-all.ensures.joins v views one ∙ ap (λ spots. joined one (Known no) (read_spots v spots)) c.deref.ensures.value
    ∙ said c.spots_of_resume.new.circuit v before leaves c.in_ok-spots.spots.items c.in_ok-spots.ensures.tests one
    ∙ ap (λ spots. known_bit (list_any (says one) spots)) (c.in_ok-spots.ensures.spots v answers r way before plain at is_stay is_leave)

pub returns-clause-away : goal.returns-clause-away
returns-clause-away c = λ v stayed left views leaves plain away is_stay is_leave one.
    let before = c.in_ok-all.ensures.grows.views v views in
    c.in_ok-all.ensures.joins v views one ∙ ap (λ spots. joined one (Known no) (read_spots v spots)) c.deref.ensures.value
    ∙ said c.spots_of_resume.new.circuit v before leaves c.in_ok-spots.spots.items c.in_ok-spots.ensures.tests one
    ∙ ap (λ spots. known_bit (list_any (says one) spots)) (c.in_ok-spots.ensures.away v stayed left before plain away is_stay is_leave)
