use Rattle.qz_control.proofs.Growing.{through, table_grows}
use Rattle.qz_control.proofs.circuit.Circuit.leaf.Goals as goal

pub returns-clause-grows : goal.returns-clause-grows
returns-clause-grows c =
    through _ _ _ c.in_ok-number.ensures.grows (table_grows c.number.new.self c.leaf.new.self c.in_ok-id.ensures.extends)
