use Rattle.qz_vtext.proofs.Written.{assign_written}
use Rattle.qz_vtext.proofs.write.assign.Goals as goal

pub returns : goal.returns
returns c = assign_written _ _ _ _ _ _ c.in_ok-write.ensures.bytes c.in_ok-right_side.ensures c.in_ok-push_str.ensures.bytes
