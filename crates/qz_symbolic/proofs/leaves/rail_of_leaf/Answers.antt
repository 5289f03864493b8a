use Rattle.std.proofs.Common.{◌≡◌, ◌∙◌, ◌+◌, ℕ, List, [], ◌∷◌, map, length, get_or, ap, sym, subst, refl, arith}
use Rattle.std.specs.List.{range_with_len}
use Rattle.std.proofs.lemmas.Option.{slice_get_within, slice_get-get_or}
use Rattle.qz_system.specs.Parts.{is_leaf_right}
use Rattle.qz_symbolic.specs.Variables.{Spot, spots, AreSpots, input_width}
use Rattle.qz_symbolic.specs.Knowing.{IsLeafRail}
use Rattle.qz_symbolic.proofs.Lists.{item_at}
use Rattle.qz_symbolic.proofs.Spelling.{spots_within, input_variables_long, place_within, started_there}
use Rattle.qz_symbolic.proofs.LeafRails.{place_of, input_of, instance_of, of_place, of_started, of_input, of_instance}
use Rattle.qz_symbolic.proofs.leaves.rail_of_leaf.Goals as goal

pub bounds-before-instance : goal.bounds-before-instance
bounds-before-instance c =
    let within = instance_of c.args.parts.now c.in-Now.instance (ap (is_leaf_right c.args.parts.now) (sym c.in-Now.is) ∙ c.requires.right) in
    let long = c.requires.before.count in
    omega (arith, within, long)

pub variable-requires-clause-variables : goal.variable-requires-clause-variables
variable-requires-clause-variables c =
    let within = input_of c.args.parts.now c.in-Input.input (ap (is_leaf_right c.args.parts.now) (sym c.in-Input.is) ∙ c.requires.right) in
    let long = c.requires.variables.input_count in
    let own = c.requires.variables.inputs c.in-Input.input c.index-own.result.now
    (item_at c.args.variables.now.inputs.items c.args.variables.now.inputs.items c.in-Input.input c.index-own.result.now refl (omega (arith, within, long)) c.index-own.ensures) in
    λ k d below.
    let small = spots_within (spots c.args.parts.now) (map (Spot.Given c.in-Input.input) (range_with_len 0 (input_width c.args.parts.now c.in-Input.input))) c.deref.result.now
    (subst (λ (xs : List ℕ). AreSpots c.args.parts.now (map (Spot.Given c.in-Input.input) (range_with_len 0 (input_width c.args.parts.now c.in-Input.input))) xs) (sym c.deref.ensures.value) own.bits)
    k d below in
    omega (arith, small, c.requires.count)

pub variable-requires-clause-width : goal.variable-requires-clause-width
variable-requires-clause-width c =
    let within = input_of c.args.parts.now c.in-Input.input (ap (is_leaf_right c.args.parts.now) (sym c.in-Input.is) ∙ c.requires.right) in
    let long = c.requires.variables.input_count in
    let own = c.requires.variables.inputs c.in-Input.input c.index-own.result.now
    (item_at c.args.variables.now.inputs.items c.args.variables.now.inputs.items c.in-Input.input c.index-own.result.now refl (omega (arith, within, long)) c.index-own.ensures) in
    let same = ap length c.as_slice.ensures in
    ap length c.deref.ensures.value
    ∙ input_variables_long c.args.parts.now c.in-Input.input c.index-as_slice-input.result
    (item_at c.as_slice.result.now c.args.parts.now.inputs c.in-Input.input c.index-as_slice-input.result c.as_slice.ensures (omega (arith, same, within)) c.index-as_slice-input.is)
    c.index-own.result.now.bits.items own.bits

pub variable-requires-in-At-clause-variables : goal.variable-requires-in-At-clause-variables
variable-requires-in-At-clause-variables c = λ k d below.
    let within = place_within c.args.parts.now c.in-At.place (place_of c.args.parts.now c.in-At.place (ap (is_leaf_right c.args.parts.now) (sym c.in-At.is) ∙ c.requires.right)) in
    let first : k ≡ 0 = omega arith in
    let read : get_or ((c.in-At.place + 1) ∷ []) k d ≡ c.in-At.place + 1 = ap (λ i. get_or ((c.in-At.place + 1) ∷ []) i d) first in
    omega (arith, within, read, c.requires.count)

pub variable-requires-in-Started-clause-variables : goal.variable-requires-in-Started-clause-variables
variable-requires-in-Started-clause-variables c = λ k d below.
    let within = slice_get_within (spots c.args.parts.now) 0 Spot.Started (started_there c.args.parts.now) in
    let first : k ≡ 0 = omega arith in
    let read : get_or (0 ∷ []) k d ≡ 0 = ap (λ i. get_or (0 ∷ []) i d) first in
    omega (arith, within, read, c.requires.count)

pub returns-in_ok-r-in-Input-clause-rail : goal.returns-in_ok-r-in-Input-clause-rail
returns-in_ok-r-in-Input-clause-rail c =
    let within = input_of c.args.parts.now c.in-Input.input (ap (is_leaf_right c.args.parts.now) (sym c.in-Input.is) ∙ c.requires.right) in
    let long = c.requires.variables.input_count in
    let own = c.requires.variables.inputs c.in-Input.input c.index-own.result.now
    (item_at c.args.variables.now.inputs.items c.args.variables.now.inputs.items c.in-Input.input c.index-own.result.now refl (omega (arith, within, long)) c.index-own.ensures) in
    let same = ap length c.as_slice.ensures in
    subst (λ one. IsLeafRail c.variable.new.diagrams c.args.parts.now c.args.before.now one c.in_ok-r-in-Input.r) (sym c.in-Input.is)
    (of_input c.variable.new.diagrams c.args.parts.now c.args.before.now c.in-Input.input c.index-as_slice-input.result c.deref.result.now c.in_ok-r-in-Input.r
    (item_at c.as_slice.result.now c.args.parts.now.inputs c.in-Input.input c.index-as_slice-input.result c.as_slice.ensures (omega (arith, same, within)) c.index-as_slice-input.is)
    (subst (λ (xs : List ℕ). AreSpots c.args.parts.now (map (Spot.Given c.in-Input.input) (range_with_len 0 (input_width c.args.parts.now c.in-Input.input))) xs) (sym c.deref.ensures.value) own.bits)
    c.in_ok-r-in-Input.ensures.rail c.in_ok-r-in-Input.ensures.means)

pub returns-in_ok-r-in-Now-clause-rail : goal.returns-in_ok-r-in-Now-clause-rail
returns-in_ok-r-in-Now-clause-rail c =
    let within = instance_of c.args.parts.now c.in-Now.instance (ap (is_leaf_right c.args.parts.now) (sym c.in-Now.is) ∙ c.requires.right) in
    let long = c.requires.before.count in
    subst (λ one. IsLeafRail c.args.diagrams.now c.args.parts.now c.args.before.now one c.in_ok-r-in-Now.r) (sym c.in-Now.is)
    (of_instance c.args.diagrams.now c.args.parts.now c.args.before.now c.in-Now.instance (get_or c.args.before.now c.in-Now.instance c.index-before-instance.result) c.in_ok-r-in-Now.r
    c.requires.before (slice_get-get_or c.args.before.now c.in-Now.instance c.index-before-instance.result (omega (arith, within, long)))
    c.in_ok-r-in-Now.ensures.clash c.in_ok-r-in-Now.ensures.known c.in_ok-r-in-Now.ensures.bits)

pub returns-in_ok-r-in-At-clause-rail : goal.returns-in_ok-r-in-At-clause-rail
returns-in_ok-r-in-At-clause-rail c =
    subst (λ one. IsLeafRail c.variable-in-At.new.diagrams c.args.parts.now c.args.before.now one c.in_ok-r-in-At.r) (sym c.in-At.is)
    (of_place c.variable-in-At.new.diagrams c.args.parts.now c.args.before.now c.in-At.place c.in_ok-r-in-At.r
    (ap (is_leaf_right c.args.parts.now) (sym c.in-At.is) ∙ c.requires.right) c.in_ok-r-in-At.ensures.rail c.in_ok-r-in-At.ensures.means)

pub returns-in_ok-r-in-Started-clause-rail : goal.returns-in_ok-r-in-Started-clause-rail
returns-in_ok-r-in-Started-clause-rail c =
    subst (λ one. IsLeafRail c.variable-in-Started.new.diagrams c.args.parts.now c.args.before.now one c.in_ok-r-in-Started.r) (sym c.in-Started.is)
    (of_started c.variable-in-Started.new.diagrams c.args.parts.now c.args.before.now c.in_ok-r-in-Started.r c.in_ok-r-in-Started.ensures.rail c.in_ok-r-in-Started.ensures.means)
