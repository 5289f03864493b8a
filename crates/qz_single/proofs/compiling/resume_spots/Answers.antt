use Rattle.std.proofs.Common.{false}
use Rattle.qz_control.specs.Guarded.{Goes}
use Rattle.qz_single.proofs.compiling.resume_spots.Goals as goal

pub returns-clause-spots : goal.returns-clause-spots
returns-clause-spots c = λ v answers r views plain there.
    let is_no = c.in_ok-never.ensures.means v (c.in_ok-spots.ensures.grows.views v views) in
    c.in_ok-spots.ensures.spots v answers r Goes views plain there is_no is_no

pub returns-clause-away : goal.returns-clause-away
returns-clause-away c = λ v views plain away.
    let is_no = c.in_ok-never.ensures.means v (c.in_ok-spots.ensures.grows.views v views) in
    c.in_ok-spots.ensures.away v false false views plain away is_no is_no
