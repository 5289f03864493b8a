use Rattle.std.proofs.Common.{◌≡◌, drop}
use Rattle.std.specs.List.{list_all}
use Rattle.qz_values.specs.declared.Ty.{Ty}
use Rattle.qz_nets.specs.declared.net.Net.{Net}
use Rattle.qz_system.specs.Parts.{is_net_right}
use Rattle.qz_system.proofs.wired.are_nets_right.Given as goal

abbrev pub invariant-loop-number : goal.invariant-loop-number
invariant-loop-number l =
    list_all (λ (entry : Net × Ty). is_net_right l.parts entry.0) (drop l.number l.parts.table.nets.entries)
    ≡ list_all (λ (entry : Net × Ty). is_net_right l.parts entry.0) l.parts.table.nets.entries
