-- A circuit that grows twice.
use Rattle.qz_values.specs.declared.Ty.TheVariants.{Bool as Truth}
use Rattle.qz_nets.specs.declared.table.NetTable.{NetTable}
use Rattle.qz_nets.specs.Readings.{Extends}
use Rattle.qz_control.specs.declared.circuit.Circuit.{Circuit}
use Rattle.qz_control.specs.Circuits.{Grows}

pub through : (a b c : Circuit) → Grows a b → Grows b c → Grows a c
through a b c g h = record {
  types = λ id ty is. h.types id ty (g.types id ty is);
  bools = λ id is. h.bools id (g.bools id is);
  views = λ v is. g.views v (h.views v is);
}

-- a circuit whose table grows
pub table_grows : (old : Circuit) (table : NetTable) → Extends old.table table → Grows old (record { table = table; leaves = old.leaves })
table_grows old table e = record {
  types = λ id ty h. e.types id.0 ty h;
  bools = λ id h. record { typed = e.types id.0 Truth h.typed };
  views = λ v h. record { nets = e.reads v.nets h.nets; leaves = h.leaves };
}
