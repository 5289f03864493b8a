use Rattle.std.proofs.Common.{false, List, sym, subst}
use Rattle.qz_wires.specs.declared.rails.Rail.{Rail}
use Rattle.qz_wires.specs.Rails.{ShowEach}
use Rattle.qz_wires.proofs.Through.{through}
use Rattle.qz_equations.specs.declared.tallies.Tally.{Tally}
use Rattle.qz_equations.specs.Tallies.{ShowVerdicts}
use Rattle.qz_system.specs.Writers.{verdict_of}
use Rattle.qz_equations.proofs.Keeping.{over_kept}
use Rattle.qz_equations.proofs.RoundLemmas.{shows_settled}
use Rattle.qz_equations.proofs.rounds.next_round.Goals as goal

pub settle_all-requires-clause-over : goal.settle_all-requires-clause-over
settle_all-requires-clause-over c = over_kept (through c.in_ok-nets.ensures.extends c.in_ok-writers.ensures.extends) c.requires.over

pub returns-clause-extends : goal.returns-clause-extends
returns-clause-extends c = through c.in_ok-nets.ensures.extends (through c.in_ok-writers.ensures.extends c.in_ok-rails.ensures.extends)

pub returns-clause-means : goal.returns-clause-means
returns-clause-means c = λ nets reads v holds before after delayed round now.
    let parts = c.args.parts.now in
    let at_writers = c.in_ok-rails.ensures.extends.reads nets reads in
    let at_nets = c.in_ok-writers.ensures.extends.reads nets at_writers in
    let rails = c.in_ok-nets.ensures.means nets at_nets v holds before round.know round.reads now in
    let P : List Rail → Type 0 = λ rails. ShowEach nets rails round.know in
    let writers = c.in_ok-writers.ensures.means nets at_writers round.know (subst P (sym c.deref.ensures.value) rails) in
    let Q : List Tally → Type 0 = λ tallies. ShowVerdicts nets tallies (λ n. verdict_of round.know n false parts.acts) in
    let settled = c.in_ok-rails.ensures.means nets reads v holds (λ n. verdict_of round.know n false parts.acts) (subst Q (sym c.deref-2.ensures.value) writers) in
    shows_settled parts v nets c.in_ok-rails.rails.items round.know after delayed round.are_settled c.in_ok-rails.ensures.rails.count settled
