use Rattle.qz_vtext.proofs.Written.{output_written}
use Rattle.qz_vtext.proofs.write.output.Goals as goal

pub returns : goal.returns
returns c =
    output_written _ _ _ _ _ _ _ _ c.in_ok-push_str.ensures.bytes c.in_ok-push_name.ensures c.in_ok-push_str-2.ensures.bytes
    c.in_ok-net.ensures c.in_ok-push_str-3.ensures.bytes
