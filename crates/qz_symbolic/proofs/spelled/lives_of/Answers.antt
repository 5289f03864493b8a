use Rattle.std.proofs.Common.{◌≡◌, ◌∙◌, List, length, ap, sym, subst}
use Rattle.std.specs.Prelude.{replicate}
use Rattle.qz_dd.specs.declared.node.DdId.{DdId}
use Rattle.qz_symbolic.specs.Views.{AreLives}
use Rattle.qz_symbolic.proofs.Growing.{written_back, places_grow}
use Rattle.qz_symbolic.proofs.Spelling.{lives_right}
use Rattle.qz_symbolic.proofs.spelled.lives_of.Goals as goal

pub returns-clause-lives : goal.returns-clause-lives
returns-clause-lives c =
    let start : c.in_ok-lives.lives.items ≡ replicate (length c.args.parts.now.cells) c.constant-never.result =
    c.in_ok-lives.ensures.items_if_clones_equal (λ y same. same) ∙ ap (λ n. replicate n c.constant-never.result) c.len.ensures in
    let value : c.deref_mut.result.now ≡ c.in_ok-lives.lives.items = c.deref_mut.ensures.value in
    subst (λ (xs : List DdId). AreLives c.add_lives.new.diagrams c.args.parts.now xs)
    (sym (written_back c.in_ok-lives.lives.len c.add_lives.new.lives c.in_ok-lives.lives.items (c.add_lives.auto.lives ∙ ap length value) c.in_ok-lives.lives.ok.0))
    (lives_right c.add_lives.new.diagrams c.args.parts.now c.args.places.now c.deref_mut.result.now c.add_lives.new.lives c.constant-never.result
    (places_grow c.args.diagrams.now c.add_lives.new.diagrams c.args.parts.now c.args.places.now c.in_ok-add_lives.ensures.extends c.requires)
    (λ reading reads. c.constant-never.ensures.means reading (c.in_ok-add_lives.ensures.extends.reads reading reads))
    (value ∙ start) c.add_lives.auto.lives c.in_ok-add_lives.ensures.all_below c.in_ok-add_lives.ensures.lives)
