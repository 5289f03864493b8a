use Rattle.std.proofs.Common.{codes}
use Rattle.qz_vtext.proofs.Written.{block_written}
use Rattle.qz_vtext.proofs.write.initial.Goals as goal

pub returns : goal.returns
returns c =
    block_written (codes "  initial begin") _ _ _ _ _ c.in_ok-push_str.ensures.bytes c.in_ok-initial_values.ensures
    c.in_ok-push_str-2.ensures.bytes
