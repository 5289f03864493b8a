use Rattle.qz_first.specs.WireTable.{rights}
use Rattle.std.proofs.Common.{List, subst, ap, ◌∙◌, sym}
use Rattle.qz_first.specs.BitNets.{right_bit}
use Rattle.qz_verilog.specs.declared.nets.Rhs.{Rhs}
use Rattle.qz_verilog.specs.contracts.nets.RhsPartialEq.TheImpl.{eq-value}
use Rattle.qz_first.proofs.Declaring.{AreSound, sound_insert}
use Rattle.qz_first.proofs.WireLemmas.{same_right_side}
use Rattle.qz_first.proofs.wires.Wires.add.Goals as goal

pub returns-clause-means : goal.returns-clause-means
returns-clause-means c = λ nets reads.
    let h = c.in_ok-number.ensures.stored in
    reads.settles _ h.0 h.1 ∙ ap (right_bit nets) (sym (same_right_side c.args.rhs h.0 h.2))

pub returns-clause-declares : goal.returns-clause-declares
returns-clause-declares c = λ registers sound reads.
    let old = rights c.args.self.now in
    let P : List Rhs → Type 0 = AreSound registers in
    record {
      sound = record {
        each = subst P (sym c.in_ok-number.ensures.keys) (sound_insert (eq-value).it registers old c.args.rhs sound.each reads);
      };
      has = record { declared = c.in_ok-number.ensures.within };
    }
