use Rattle.std.proofs.Common.{ℕ, List, ap, sym, subst, ◌∙◌, arith}
use Rattle.std.proofs.lemmas.Grind.{common_steps}
use Rattle.std.proofs.lemmas.Option.{slice_get-get_or}
use Rattle.qz_values.specs.declared.Know.{Know}
use Rattle.qz_system.specs.Parts.{instance_type}
use Rattle.qz_wires.specs.declared.rails.Rail.{Rail}
use Rattle.qz_wires.specs.WireTable.{types_in}
use Rattle.qz_wires.specs.Rails.{Shows, ShowEach}
use Rattle.qz_wires.proofs.Through.{through}
use Rattle.qz_equations.specs.Unrolled.{settles_at, AreFirstRails}
use Rattle.qz_equations.proofs.Keeping.{over_kept, tally_kept, first_rails_kept}
use Rattle.qz_wires.proofs.NetLists.{show_more}
use Rattle.qz_equations.proofs.Showing.{first_rails_more}
use Rattle.qz_equations.proofs.settling.settle_all.Goals as goal

pub settle-requires-clause-over : goal.settle-requires-clause-over
settle-requires-clause-over c = over_kept c.loop-number.invariant.extends c.requires.over

pub settle-requires-clause-writers : goal.settle-requires-clause-writers
settle-requires-clause-writers c = λ ty is.
    tally_kept c.loop-number.invariant.extends (c.requires.writers.each c.loop-number.number ty _ is
    (slice_get-get_or c.args.writers.now c.loop-number.number _ (let e = c.requires.writers.count in omega arith)))

pub loop-number-preserved : goal.loop-number-preserved
loop-number-preserved c =
    let parts = c.args.parts.now in
    let old = c.loop-number.rails.items in
    let types = types_in c.settle.new.wires in
    let count = c.loop-number.invariant.size in
    record {
      extends = through c.loop-number.invariant.extends c.in_ok-rail.ensures.extends;
      size = grind (arith, common_steps);
      rails = subst (AreFirstRails types parts) (sym c.in_ok-push.ensures.items)
          (first_rails_more types parts old c.in_ok-rail.rail (first_rails_kept c.in_ok-rail.ensures.extends c.loop-number.invariant.rails)
          (λ ty is. c.in_ok-rail.ensures.rail ty (ap (instance_type parts) (sym count) ∙ is)));
      shown = λ nets reads v holds verdicts writers.
          let each : ℕ → Know = λ n. settles_at parts v n (verdicts n) in
          let P : List Rail → Type 0 = λ rails. ShowEach nets rails each in
          let writer = slice_get-get_or c.args.writers.now c.loop-number.number _ (let e = c.requires.writers.count in omega arith) in
          subst P (sym c.in_ok-push.ensures.items) (show_more nets old c.in_ok-rail.rail each
          (c.loop-number.invariant.shown nets (c.in_ok-rail.ensures.extends.reads nets reads) v holds verdicts writers)
          (subst (λ n. Shows nets c.in_ok-rail.rail (each n)) (sym count)
          (c.in_ok-rail.ensures.means nets reads v holds (verdicts c.loop-number.number) (writers c.loop-number.number _ writer))));
    }

pub returns-clause-rails : goal.returns-clause-rails
returns-clause-rails c = record { count = grind (arith, common_steps); each = c.loop-number.invariant.rails.each }
