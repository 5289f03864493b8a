use Rattle.std.proofs.Common.{◌∙◌}
use Rattle.qz_printer.proofs.Written.{whole_written}
use Rattle.qz_printer.proofs.files.text.Goals as goal

pub returns : goal.returns
returns c =
    c.in_ok-push_str.ensures.bytes
    ∙ whole_written c.args.f.now _ _ _ _ c.new-text.ensures.bytes (rw c.as_slice.ensures at c.in_ok-prototypes.ensures) c.in_ok-head.ensures c.in_ok-block.ensures
