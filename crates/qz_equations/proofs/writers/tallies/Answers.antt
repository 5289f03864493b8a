use Rattle.std.proofs.Common.{◌≡◌, ◌+◌, ℕ, List, [], refl, ap, sym, subst, ◌∙◌, get_or, drop}
use Rattle.std.proofs.lemmas.List.{drop_more, drop_all}
use Rattle.qz_meaning.specs.Verdicts.{Nobody}
use Rattle.qz_system.specs.declared.parts.Act.{Act}
use Rattle.qz_system.specs.Writers.{tally_of}
use Rattle.qz_wires.proofs.Through.{through}
use Rattle.qz_equations.specs.Tallies.{ShowsVerdict}
use Rattle.qz_wires.proofs.NetLists.{net_rails_kept}
use Rattle.qz_equations.proofs.ActLemmas.{with_one, no_act}
use Rattle.qz_equations.proofs.writers.tallies.Goals as goal

pub loop-act-init : goal.loop-act-init
loop-act-init c = record {
  extends = c.in_ok-tallies.ensures.extends;
  tallies = c.in_ok-tallies.ensures.tallies;
  shown = λ settled reads know nets. ((λ (n : ℕ). Nobody), c.in_ok-tallies.ensures.means settled reads, (λ n. refl));
}

pub add_act-requires-clause-nets : goal.add_act-requires-clause-nets
add_act-requires-clause-nets c = net_rails_kept c.loop-act.invariant.extends c.requires.nets

pub loop-act-preserved : goal.loop-act-preserved
loop-act-preserved c = record {
  extends = through c.loop-act.invariant.extends c.in_ok-add_act.ensures.extends;
  tallies = c.in_ok-add_act.ensures.tallies;
  shown = λ settled reads know nets.
      let before = c.loop-act.invariant.shown settled (c.in_ok-add_act.ensures.extends.reads settled reads) know nets in
      let acts = c.as_slice-act-items.result.now in
      let act = get_or acts c.loop-act.act-index no_act in (
        with_one know c.args.delayed act before.0,
        c.in_ok-add_act.ensures.means settled reads know nets before.0 before.1,
        (λ n. ap (λ (all : List Act). tally_of know n c.args.delayed (with_one know c.args.delayed act before.0 n) (drop (c.loop-act.act-index + 1) all)) (sym c.as_slice-act-items.ensures)
            ∙ ap (tally_of know n c.args.delayed (before.0 n)) (sym (drop_more acts c.loop-act.act-index no_act c.loop-act-test.true))
            ∙ ap (λ (all : List Act). tally_of know n c.args.delayed (before.0 n) (drop c.loop-act.act-index all)) c.as_slice-act-items.ensures
            ∙ before.2 n),
      );
}

pub returns-clause-means : goal.returns-clause-means
returns-clause-means c = λ settled reads know nets n tally at.
    let h = c.loop-act.invariant.shown settled reads know nets in
    let none : drop c.loop-act.act-index c.args.parts.now.acts ≡ [] =
    ap (drop c.loop-act.act-index) (sym c.as_slice-act-items.ensures) ∙ drop_all c.loop-act.act-index c.as_slice-act-items.result.now c.loop-act-test.false in
    subst (ShowsVerdict settled tally) (ap (tally_of know n c.args.delayed (h.0 n)) (sym none) ∙ h.2 n) (h.1 n tally at)
