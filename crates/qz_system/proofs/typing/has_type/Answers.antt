use Rattle.std.proofs.Common.{sym}
use Rattle.qz_system.proofs.TypingLemmas.{instance_typed}
use Rattle.qz_system.proofs.typing.has_type.Goals as goal

pub is_of-requires : goal.is_of-requires
is_of-requires c = instance_typed c.args.parts.now c.requires c.args.number c.in-Some.ty (sym c.in-Some.ensures)
