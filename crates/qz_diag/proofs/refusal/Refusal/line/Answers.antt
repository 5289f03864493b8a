-- A name's characters, encoded again, are the bytes of its text.
use Rattle.std.proofs.lemmas.Str.{encodes-chars}
use Rattle.qz_diag.proofs.refusal.Refusal.line.Goals as goal

pub returns-in-InstantLoop : goal.returns-in-InstantLoop
returns-in-InstantLoop c =
    rw (c.in-InstantLoop.is, ← c.as_str-module.ensures.text, encodes-chars c.as_str-module.result.now c.as_str-module.utf8) c.format-in-InstantLoop.ensures.ok

pub returns-in-WrongName : goal.returns-in-WrongName
returns-in-WrongName c =
    rw (c.in-WrongName.is, ← c.as_str-name.ensures.text, encodes-chars c.as_str-name.result.now c.as_str-name.utf8) c.format-in-WrongName.ensures.ok

pub returns-in-BadVerilog : goal.returns-in-BadVerilog
returns-in-BadVerilog c = rw (c.in-BadVerilog.is) c.format-in-BadVerilog.ensures.ok
