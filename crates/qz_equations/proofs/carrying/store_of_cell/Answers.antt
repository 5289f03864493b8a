use Rattle.std.proofs.Common.{sym, subst, ◌∙◌}
use Rattle.qz_values.specs.declared.Know.{Know}
use Rattle.qz_values.specs.Values.{is_yes}
use Rattle.qz_verilog.specs.Meaning.{value_at}
use Rattle.qz_meaning.specs.Scenes.{store_of}
use Rattle.qz_meaning.specs.Settling.{settled_later}
use Rattle.qz_wires.specs.Rails.{Shows}
use Rattle.qz_wires.proofs.Through.{through}
use Rattle.qz_equations.specs.declared.tallies.StoreNets.{StoreNets}
use Rattle.qz_equations.specs.Tallies.{ShowsStore}
use Rattle.qz_equations.proofs.StoreLemmas.{plain_store, known_value, coming_mark, coming_value}
use Rattle.qz_equations.proofs.carrying.store_of_cell.Goals as goal

pub returns-clause-extends : goal.returns-clause-extends
returns-clause-extends c = through c.in_ok-kept.ensures.extends c.in_ok-chosen.ensures.extends

pub returns-clause-means : goal.returns-clause-means
returns-clause-means c = λ settled reads k d shown delayed known told.
    let at_kept = c.in_ok-chosen.ensures.extends.reads settled reads in
    let class = c.args.cell.now.class in
    let ty = c.args.cell.now.ty in
    let v = known_value k known in
    let is = (subst (Shows settled c.args.value) v.1 shown).1 in
    let kept = c.in_ok-kept.ensures.means settled at_kept (plain_store v.0) is in
    let decided = is_yes (value_at settled c.args.delayed.decided) in
    let value = value_at settled c.args.delayed.value in
    let idle = is_yes (value_at settled c.args.delayed.idle) in
    let place : StoreNets = record { mark = c.args.delayed.decided; value = c.in_ok-chosen.chosen } in
    let P : Know → Type 0 = λ x. ShowsStore settled place (store_of class ty x (settled_later d)) in
    subst P (sym v.1) (record {
      mark = coming_mark class ty v.0 d decided value idle delayed told;
      value = c.in_ok-chosen.ensures.means settled reads ∙ coming_value class ty v.0 (value_at settled c.in_ok-kept.kept) d decided value idle delayed told kept;
    })
