use Rattle.std.proofs.Common.{List, ap, sym, subst, ◌∙◌, arith}
use Rattle.std.proofs.lemmas.Grind.{common_steps}
use Rattle.std.proofs.lemmas.Option.{same_Some}
use Rattle.qz_meaning.specs.Verdicts.{Nobody}
use Rattle.qz_system.specs.Parts.{instance_type}
use Rattle.qz_system.proofs.TypingLemmas.{instance_typed}
use Rattle.qz_wires.specs.WireTable.{types_in}
use Rattle.qz_wires.proofs.Through.{through}
use Rattle.qz_equations.specs.declared.tallies.Tally.{Tally}
use Rattle.qz_equations.specs.Tallies.{ShowVerdicts, IsTally}
use Rattle.qz_equations.specs.Unrolled.{AreFirstTallies}
use Rattle.qz_equations.proofs.Keeping.{first_tallies_kept}
use Rattle.qz_equations.proofs.Showing.{verdicts_more, first_tallies_more}
use Rattle.qz_equations.proofs.writers.no_writers.Goals as goal

pub nobody-requires : goal.nobody-requires
nobody-requires c = instance_typed c.args.parts.now c.requires.parts c.loop-number.number c.type_of.result c.type_of.ensures

pub loop-number-preserved : goal.loop-number-preserved
loop-number-preserved c =
    let parts = c.args.parts.now in
    let old = c.loop-number.tallies.items in
    let types = types_in c.nobody.new.wires in
    let count = c.loop-number.invariant.size in
    record {
      extends = through c.loop-number.invariant.extends c.in_ok-tally.ensures.extends;
      size = grind (arith, common_steps);
      tallies = subst (AreFirstTallies types parts) (sym c.in_ok-push.ensures.items)
          (first_tallies_more types parts old c.in_ok-tally.tally (first_tallies_kept c.in_ok-tally.ensures.extends c.loop-number.invariant.tallies)
          (λ ty is. subst (λ t. IsTally types t c.in_ok-tally.tally)
          (same_Some c.type_of.result ty (sym c.type_of.ensures ∙ ap (instance_type parts) (sym count) ∙ is)) c.in_ok-tally.ensures.typed));
      shown = λ nets reads.
          let P : List Tally → Type 0 = λ tallies. ShowVerdicts nets tallies (λ n. Nobody) in
          subst P (sym c.in_ok-push.ensures.items) (verdicts_more nets old c.in_ok-tally.tally (λ n. Nobody)
          (c.loop-number.invariant.shown nets (c.in_ok-tally.ensures.extends.reads nets reads)) (c.in_ok-tally.ensures.means nets reads));
    }

pub returns-clause-tallies : goal.returns-clause-tallies
returns-clause-tallies c = record { count = grind (arith, common_steps); each = c.loop-number.invariant.tallies.each }
