use Rattle.std.proofs.Common.{ap, sym, subst, ◌∙◌, arith}
use Rattle.std.proofs.lemmas.Option.{slice_get-get_or}
use Rattle.qz_system.specs.Parts.{is_leaf_right, leaf_stands}
use Rattle.qz_system.specs.Rounds.{leaf_known}
use Rattle.qz_wires.specs.Rails.{Shows}
use Rattle.qz_equations.proofs.Keeping.{over_kept}
use Rattle.qz_equations.proofs.LeafLemmas.{input_rail, place_rail, now_within, input_is, place_is}
use Rattle.qz_equations.proofs.leaves.leaf_rail.Goals as goal

pub returns-in_ok-r-in-Input-clause-rail : goal.returns-in_ok-r-in-Input-clause-rail
returns-in_ok-r-in-Input-clause-rail c = λ ty stands.
    input_rail c.args.parts.now c.requires.parts c.known.new.wires (over_kept c.in_ok-r-in-Input.ensures.extends c.requires.over) c.in_ok-r-in-Input.r
    c.in_ok-r-in-Input.ensures.known c.in-Input.input ty c.in_ok-r-in-Input.ensures.value (ap (leaf_stands c.args.parts.now) (sym c.in-Input.is) ∙ stands)

pub returns-in_ok-r-in-Input-clause-means : goal.returns-in_ok-r-in-Input-clause-means
returns-in_ok-r-in-Input-clause-means c = λ nets reads v holds before now.
    subst (Shows nets c.in_ok-r-in-Input.r)
    (input_is c.args.parts.now c.requires.parts v nets holds before c.in-Input.input (ap (is_leaf_right c.args.parts.now) (sym c.in-Input.is) ∙ c.requires.leaf)
    ∙ ap (leaf_known c.args.parts.now v before) (sym c.in-Input.is))
    (c.in_ok-r-in-Input.ensures.means nets reads)

pub returns-in-Now-clause-rail : goal.returns-in-Now-clause-rail
returns-in-Now-clause-rail c = λ ty stands.
    let within = now_within c.args.parts.now c.requires.parts c.in-Now.instance (ap (is_leaf_right c.args.parts.now) (sym c.in-Now.is) ∙ c.requires.leaf) in
    c.requires.now.each c.in-Now.instance ty _ (ap (leaf_stands c.args.parts.now) (sym c.in-Now.is) ∙ stands)
    (slice_get-get_or c.args.now.now c.in-Now.instance _ (let e = c.requires.now.count in omega (arith, within)))

pub returns-in-Now-clause-means : goal.returns-in-Now-clause-means
returns-in-Now-clause-means c = λ nets reads v holds before now.
    let within = now_within c.args.parts.now c.requires.parts c.in-Now.instance (ap (is_leaf_right c.args.parts.now) (sym c.in-Now.is) ∙ c.requires.leaf) in
    rw c.in-Now.is
    (now c.in-Now.instance _ (slice_get-get_or c.args.now.now c.in-Now.instance _ (let e = c.requires.now.count in omega (arith, within))))

pub returns-in_ok-r-in-At-clause-rail : goal.returns-in_ok-r-in-At-clause-rail
returns-in_ok-r-in-At-clause-rail c = λ ty stands.
    place_rail c.args.parts.now c.requires.parts c.known-in-At.new.wires (over_kept c.in_ok-r-in-At.ensures.extends c.requires.over) c.in_ok-r-in-At.r
    c.in_ok-r-in-At.ensures.known c.in-At.place ty c.in_ok-r-in-At.ensures.value (ap (leaf_stands c.args.parts.now) (sym c.in-At.is) ∙ stands)

pub returns-in_ok-r-in-At-clause-means : goal.returns-in_ok-r-in-At-clause-means
returns-in_ok-r-in-At-clause-means c = λ nets reads v holds before now.
    subst (Shows nets c.in_ok-r-in-At.r)
    (place_is c.args.parts.now c.requires.parts v nets holds before c.in-At.place (ap (is_leaf_right c.args.parts.now) (sym c.in-At.is) ∙ c.requires.leaf)
    ∙ ap (leaf_known c.args.parts.now v before) (sym c.in-At.is))
    (c.in_ok-r-in-At.ensures.means nets reads)
