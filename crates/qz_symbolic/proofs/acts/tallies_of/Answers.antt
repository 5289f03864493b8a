use Rattle.std.proofs.Common.{◌≡◌, ◌∙◌, List, length, get_or, false, ap, sym, arith}
use Rattle.std.proofs.lemmas.List.{drop_all, get_or_default}
use Rattle.std.proofs.lemmas.Option.{slice_get_within}
use Rattle.qz_tallies.specs.Tallies.{verdict_in}
use Rattle.qz_system.specs.declared.parts.Act.{Act}
use Rattle.qz_system.specs.Writers.{tally_of}
use Rattle.qz_symbolic.proofs.Growing.{grows}
use Rattle.qz_symbolic.proofs.LeafRails.{some_there}
use Rattle.qz_symbolic.proofs.Acting.{acts_more}
use Rattle.qz_symbolic.proofs.acts.tallies_of.Goals as goal

pub loop-act-preserved : goal.loop-act-preserved
loop-act-preserved c = record {
  extends = grows c.args.diagrams.now c.loop-act.diagrams c.add_act.new.diagrams c.loop-act.invariant.extends c.in_ok-add_act.ensures.extends;
  have = c.in_ok-add_act.ensures.have;
  says = λ n ty tally typed at reading reads know known.
      let within = slice_get_within c.add_act.new.tallies.items n tally at in
      let long = c.in_ok-add_act.ensures.have.long in
      let before = c.loop-act.invariant.have.long in
      let old = some_there c.loop-act.tallies.items n (omega (arith, within, long, before)) in
      let act : Act = get_or c.as_slice-act-items.result.now c.loop-act.act-index (record { instance = 0; delayed = false; guard = record { 0 = 0 }; value = record { 0 = 0 } }) in
      let same = ap length c.as_slice-act-items.ensures in
      let test = c.loop-act-test.true in
      let is : act ≡ get_or c.args.parts.now.acts c.loop-act.act-index act =
      get_or_default c.as_slice-act-items.result.now c.loop-act.act-index (record { instance = 0; delayed = false; guard = record { 0 = 0 }; value = record { 0 = 0 } }) act test
      ∙ ap (λ (xs : List Act). get_or xs c.loop-act.act-index act) c.as_slice-act-items.ensures in
      acts_more know n c.args.delayed (verdict_in reading ty old.0) (verdict_in reading ty tally) c.args.parts.now.acts c.loop-act.act-index act
      (omega (arith, same, test)) is (c.in_ok-add_act.ensures.says.says n ty old.0 tally typed old.1 at reading reads know known)
      ∙ c.loop-act.invariant.says n ty old.0 typed old.1 reading (c.in_ok-add_act.ensures.extends.reads reading reads) know known;
}

pub returns-clause-tallies : goal.returns-clause-tallies
returns-clause-tallies c = record {
  have = c.loop-act.invariant.have;
  says = λ n ty tally typed at reading reads know known.
      let same = ap length c.as_slice-act-items.ensures in
      let test = c.loop-act-test.false in
      let none = drop_all c.loop-act.act-index c.args.parts.now.acts (omega (arith, same, test)) in
      ap (λ (acts : List Act). tally_of know n c.args.delayed (verdict_in reading ty tally) acts) (sym none)
      ∙ c.loop-act.invariant.says n ty tally typed at reading reads know known;
}
