-- What stays as a table of wires grows: types of nets, and so of rails, tallies and stores.
use Rattle.std.proofs.Common.{List, ◌∙◌}
use Rattle.qz_values.specs.declared.Ty.{Ty}
use Rattle.qz_system.specs.declared.parts.SystemParts.{SystemParts}
use Rattle.qz_wires.specs.declared.wires.Wires.{Wires}
use Rattle.qz_wires.specs.declared.rails.Rail.{Rail}
use Rattle.qz_wires.specs.WireTable.{types_in, Extends}
use Rattle.qz_wires.proofs.NetLists.{rail_kept, net_rails_kept}
use Rattle.qz_equations.specs.declared.tallies.Tally.{Tally}
use Rattle.qz_equations.specs.declared.tallies.StoreNets.{StoreNets}
use Rattle.qz_equations.specs.Tallies.{IsTally, IsStoreOf}
use Rattle.qz_equations.specs.Registers.{AreOver}
use Rattle.qz_equations.specs.Ends.{AreLast, AreFlags, AreStores}
use Rattle.qz_equations.specs.declared.ends.LastRails.{LastRails}
use Rattle.qz_verilog.specs.declared.nets.Ref.{Ref}
use Rattle.qz_equations.specs.Unrolled.{AreFirstRails, AreInstanceRails, AreLeavesOf, AreFirstTallies, AreTallies}

module _ {a b : Wires} (extends : Extends a b) where
  pub tally_kept : {ty : Ty} {tally : Tally} → IsTally (types_in a) ty tally → IsTally (types_in b) ty tally
  tally_kept {ty = ty} {tally = tally} is = record {
    of_type = is.of_type;
    decided_net = extends.types tally.decided _ is.decided_net;
    value_net = extends.types tally.value ty is.value_net;
    idle_net = extends.types tally.idle _ is.idle_net;
  }

  pub store_kept : {ty : Ty} {place : StoreNets} → IsStoreOf (types_in a) ty place → IsStoreOf (types_in b) ty place
  store_kept {ty = ty} {place = place} is = record {
    of_type = is.of_type;
    mark_net = extends.types place.mark _ is.mark_net;
    value_net = extends.types place.value ty is.value_net;
  }

  pub over_kept : {parts : SystemParts} → AreOver parts a → AreOver parts b
  over_kept over = record { inputs = extends.same_inputs ∙ over.inputs; regs = extends.same_regs ∙ over.regs }

  pub instances_kept : {parts : SystemParts} {rails : List Rail} → AreInstanceRails (types_in a) parts rails → AreInstanceRails (types_in b) parts rails
  instances_kept are = record { count = are.count; each = λ n ty rail is at. rail_kept extends (are.each n ty rail is at) }

  pub leaves_kept : {parts : SystemParts} {rails : List Rail} → AreLeavesOf (types_in a) parts rails → AreLeavesOf (types_in b) parts rails
  leaves_kept are = record { each = λ n one ty rail there is at. rail_kept extends (are.each n one ty rail there is at) }

  pub tallies_kept : {parts : SystemParts} {tallies : List Tally} → AreTallies (types_in a) parts tallies → AreTallies (types_in b) parts tallies
  tallies_kept are = record { count = are.count; each = λ n ty tally is at. tally_kept (are.each n ty tally is at) }

  pub first_rails_kept : {parts : SystemParts} {rails : List Rail} → AreFirstRails (types_in a) parts rails → AreFirstRails (types_in b) parts rails
  first_rails_kept are = record { each = λ n ty rail is at. rail_kept extends (are.each n ty rail is at) }

  pub first_tallies_kept : {parts : SystemParts} {tallies : List Tally} → AreFirstTallies (types_in a) parts tallies → AreFirstTallies (types_in b) parts tallies
  first_tallies_kept are = record { each = λ n ty tally is at. tally_kept (are.each n ty tally is at) }

  pub last_kept : {parts : SystemParts} {last : LastRails} → AreLast (types_in a) parts last → AreLast (types_in b) parts last
  last_kept are = record {
    instances = instances_kept are.instances;
    nets = net_rails_kept extends are.nets;
    net_count = are.net_count;
    delayed = tallies_kept are.delayed;
  }

  pub flags_kept : {flags : List Ref} → AreFlags (types_in a) flags → AreFlags (types_in b) flags
  flags_kept are = record { each = λ n net at. extends.types net _ (are.each n net at) }

  pub stores_kept : {parts : SystemParts} {stores : List StoreNets} → AreStores (types_in a) parts stores → AreStores (types_in b) parts stores
  stores_kept are = record { each = λ n cell place at is. store_kept (are.each n cell place at is) }
