-- Inputs and outputs.
use Rattle.std.specs.Prelude.{◌≡◌, true, List, [], ℕ, map}
use Rattle.std.specs.List.{AllByRecursion}
use Rattle.qz_syntax.specs.declared.declarations.Port.{Port}
use Rattle.qz_syntax.specs.DoubleNames.{are_distinct}
use Rattle.qz_verilog.specs.Validity.{port_names}
use Rattle.qz_vtext.specs.Names.{name_text}
use Rattle.qz_vread.specs.Naming.{IsNamed}

pub record PortLists : Type 0 where
  pub inputs : List Port
  pub outputs : List Port

abbrev pub no_ports : PortLists
no_ports = record { inputs = []; outputs = [] }

-- the spelled names of some ports, no two of which have one name
pub record AreSpelled (ports : List Port) (spelled : List (List ℕ)) : Type 0 where
  pub texts : spelled ≡ map name_text (port_names ports)
  pub named : AllByRecursion IsNamed (port_names ports)
  pub distinct : are_distinct (port_names ports) ≡ true
