use Rattle.std.proofs.Common.{◌≡◌, suc, ◌+◌, ◌*◌, ◌≤◌, List, length, sym, subst, subst₂, ◌∙◌, arith}
use Rattle.qz_values.specs.declared.Value.{Value}
use Rattle.qz_meaning.specs.Programs.{program_of}
use Rattle.qz_meaning.specs.Configurations.{Configuration}
use Rattle.qz_meaning.specs.Rounds.{round}
use Rattle.qz_meaning.specs.Settling.{step_met}
use Rattle.qz_interp.specs.Beginning.{BeginsRounds}
use Rattle.qz_interp.specs.FirstDoubts.{AreLists}
use Rattle.qz_interp.proofs.LastLemmas.{unchanged_is_last}
use Rattle.qz_interp.proofs.RunLemmas.{tells_from, last_in_time}
use Rattle.qz_interp.proofs.rounds.run_rounds.Goals as goal

pub returns-then-not-changed-clause-last : goal.returns-then-not-changed-clause-last
returns-then-not-changed-clause-last c =
    λ (config : Configuration) (row : List Value)
    (begins : BeginsRounds c.args.setting.now.whole.now.module config row c.args.setting.now.place.now c.args.setting.now.slots.now c.args.env.now)
    (enough : 4 * length (step_met (program_of c.args.setting.now.whole.now.module) config) ≤ c.args.most).
    let m = c.args.setting.now.whole.now.module in
    let p = program_of m in
    let unchanged = c.if-not-changed.true in
    let n = c.loop-round._round in
    let lists = c.loop-round.invariant.lists config row begins in
    let tells = tells_from m config row c.args.setting.now.place.now c.args.setting.now.slots.now c.args.env.now c.loop-round.env n begins c.loop-round.invariant.inputs lists in
    let next = c.in_ok-changed.ensures.round config row (round p config row n) begins.place begins.slots_are tells begins.numbered in
    let before : AreLists p (round p config row n) c.settle_round.new.env.now.items c.settle_round.new.env.later.items =
    subst₂ (AreLists p (round p config row n)) (sym (c.in_ok-changed.ensures.same_now unchanged)) (sym (c.in_ok-changed.ensures.same_later unchanged)) lists in
    record {
      number = n;
      last = unchanged_is_last p config row n c.settle_round.new.env.now.items c.settle_round.new.env.later.items begins.numbers before next;
      lists = before;
    }

pub loop-round-preserved : goal.loop-round-preserved
loop-round-preserved c = record {
  walker = c.in_ok-changed.ensures.walker;
  suits = c.in_ok-changed.ensures.suits;
  clear = c.in_ok-changed.ensures.clear;
  inputs = c.in_ok-changed.ensures.inputs ∙ c.loop-round.invariant.inputs;
  lists = λ (config : Configuration) (row : List Value)
      (begins : BeginsRounds c.args.setting.now.whole.now.module config row c.args.setting.now.place.now c.args.setting.now.slots.now c.args.env.now).
      let m = c.args.setting.now.whole.now.module in
      let p = program_of m in
      let n = c.loop-round._round in
      let lists = c.loop-round.invariant.lists config row begins in
      let tells = tells_from m config row c.args.setting.now.place.now c.args.setting.now.slots.now c.args.env.now c.loop-round.env n begins c.loop-round.invariant.inputs lists in
      let next = c.in_ok-changed.ensures.round config row (round p config row n) begins.place begins.slots_are tells begins.numbered in
      let one : suc n ≡ n + 1 = omega arith in
      subst (λ k. AreLists p (round p config row k) c.settle_round.new.env.now.items c.settle_round.new.env.later.items) one next;
}

pub returns-clause-last : goal.returns-clause-last
returns-clause-last c =
    λ (config : Configuration) (row : List Value)
    (begins : BeginsRounds c.args.setting.now.whole.now.module config row c.args.setting.now.place.now c.args.setting.now.slots.now c.args.env.now)
    (enough : 4 * length (step_met (program_of c.args.setting.now.whole.now.module) config) ≤ c.args.most).
    let p = program_of c.args.setting.now.whole.now.module in
    let all : c.loop-round._round ≡ c.args.most = omega arith in
    last_in_time p config row c.args.most c.loop-round.env enough
    (subst (λ k. AreLists p (round p config row k) c.loop-round.env.now.items c.loop-round.env.later.items) all (c.loop-round.invariant.lists config row begins))
