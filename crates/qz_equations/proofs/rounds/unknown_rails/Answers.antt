use Rattle.std.proofs.Common.{List, ap, sym, subst, ◌∙◌, arith}
use Rattle.std.proofs.lemmas.Grind.{common_steps}
use Rattle.std.proofs.lemmas.Option.{same_Some}
use Rattle.qz_values.specs.declared.Know.TheVariants.{Unknown}
use Rattle.qz_system.specs.Parts.{instance_type}
use Rattle.qz_system.proofs.TypingLemmas.{instance_typed}
use Rattle.qz_wires.specs.declared.rails.Rail.{Rail}
use Rattle.qz_wires.specs.WireTable.{types_in}
use Rattle.qz_wires.specs.Rails.{ShowEach, IsRail}
use Rattle.qz_wires.proofs.Through.{through}
use Rattle.qz_equations.specs.Unrolled.{AreFirstRails}
use Rattle.qz_equations.proofs.Keeping.{first_rails_kept}
use Rattle.qz_wires.proofs.NetLists.{show_more}
use Rattle.qz_equations.proofs.Showing.{first_rails_more}
use Rattle.qz_equations.proofs.rounds.unknown_rails.Goals as goal

pub unknown_rail-requires : goal.unknown_rail-requires
unknown_rail-requires c = instance_typed c.args.parts.now c.requires c.loop-number.number c.type_of.result c.type_of.ensures

pub loop-number-preserved : goal.loop-number-preserved
loop-number-preserved c =
    let parts = c.args.parts.now in
    let old = c.loop-number.rails.items in
    let types = types_in c.unknown_rail.new.wires in
    let count = c.loop-number.invariant.size in
    record {
      extends = through c.loop-number.invariant.extends c.in_ok-rail.ensures.extends;
      size = grind (arith, common_steps);
      rails = subst (AreFirstRails types parts) (sym c.in_ok-push.ensures.items)
          (first_rails_more types parts old c.in_ok-rail.rail (first_rails_kept c.in_ok-rail.ensures.extends c.loop-number.invariant.rails)
          (λ ty is. subst (λ t. IsRail types t c.in_ok-rail.rail)
          (same_Some c.type_of.result ty (sym c.type_of.ensures ∙ ap (instance_type parts) (sym count) ∙ is)) c.in_ok-rail.ensures.rail));
      shown = λ nets reads.
          let P : List Rail → Type 0 = λ rails. ShowEach nets rails (λ n. Unknown) in
          subst P (sym c.in_ok-push.ensures.items) (show_more nets old c.in_ok-rail.rail (λ n. Unknown)
          (c.loop-number.invariant.shown nets (c.in_ok-rail.ensures.extends.reads nets reads)) (c.in_ok-rail.ensures.means nets reads));
    }

pub returns-clause-rails : goal.returns-clause-rails
returns-clause-rails c = record { count = grind (arith, common_steps); each = c.loop-number.invariant.rails.each }
