use Rattle.std.proofs.Common.{◌∙◌, ap, ap₂, cond, arith}
use Rattle.std.proofs.lemmas.Option.{slice_get_within}
use Rattle.qz_symbolic.specs.Variables.{Spot, spots}
use Rattle.qz_symbolic.proofs.Growing.{grows, stores_grow, views_before}
use Rattle.qz_symbolic.proofs.Spelling.{started_there, variable_read}
use Rattle.qz_symbolic.proofs.permitting.permitted_by.Goals as goal

pub var-requires : goal.var-requires
var-requires c =
    let some = slice_get_within (spots c.args.parts.now) 0 Spot.Started (started_there c.args.parts.now) in
    omega (arith, some, c.requires.count)

pub begun-requires-clause-stores : goal.begun-requires-clause-stores
begun-requires-clause-stores c = stores_grow c.args.diagrams.now c.var.new.self c.args.parts.now c.args.stores.now c.in_ok-started.ensures.extends c.requires.stores

pub initial-requires-clause-stores : goal.initial-requires-clause-stores
initial-requires-clause-stores c =
    stores_grow c.args.diagrams.now c.begun.new.diagrams c.args.parts.now c.args.stores.now
    (grows c.args.diagrams.now c.var.new.self c.begun.new.diagrams c.in_ok-started.ensures.extends c.in_ok-begun.ensures.extends) c.requires.stores

pub returns-clause-says : goal.returns-clause-says
returns-clause-says c = λ reading v views.
    let third = views_before c.initial.new.diagrams c.ite.new.self c.args.parts.now v reading c.in_ok-r.ensures.extends views in
    let second = views_before c.begun.new.diagrams c.initial.new.diagrams c.args.parts.now v reading c.in_ok-initial.ensures.extends third in
    let first = views_before c.var.new.self c.begun.new.diagrams c.args.parts.now v reading c.in_ok-begun.ensures.extends second in
    c.in_ok-r.ensures.means reading views.reads
    ∙ ap (λ b. cond b (reading.values c.in_ok-begun.begun.0) (reading.values c.in_ok-initial.initial.0))
    (c.in_ok-started.ensures.means reading first.reads ∙ variable_read c.args.parts.now v reading views.spells 0 Spot.Started (started_there c.args.parts.now))
    ∙ ap₂ (cond v.started) (c.in_ok-begun.ensures.says reading v second) (c.in_ok-initial.ensures.says reading v third)
