use Rattle.std.proofs.Common.{◌≡◌, ◌<◌, ◌≤◌, ◌+◌, true, false, ℕ, Option, Some, refl, ap, sym, subst, ◌∙◌, arith, length, nat_lt, if◌then◌else◌}
use Rattle.std.specs.Prelude.{slice_get}
use Rattle.std.proofs.lemmas.Grind.{common_steps}
use Rattle.std.proofs.lemmas.Option.{slice_get_read, slice_get_within, same_Some}
use Rattle.qz_system.specs.declared.parts.Cell.{Cell}
use Rattle.qz_system.specs.declared.parts.Inst.{Inst}
use Rattle.qz_system.specs.Nexts.{first_carry, instance_of, source}
use Rattle.qz_equations.specs.Tallies.{ShowsStore}
use Rattle.qz_equations.specs.Ends.{coming}
use Rattle.qz_equations.proofs.OutputLemmas.{output_first}
use Rattle.qz_equations.proofs.nexts.next_store.Goals as goal

pub store_from-requires-clause-within : goal.store_from-requires-clause-within
store_from-requires-clause-within c =
    let parts = c.args.parts.now in
    let first = output_first parts c.requires.parts c.args.number (let h = c.if-number-len.true in let e = c.len.ensures in omega arith) in
    slice_get_within parts.instances c.args.number first.one first.at

pub store_from-requires-clause-cell : goal.store_from-requires-clause-cell
store_from-requires-clause-cell c = λ one at.
    let parts = c.args.parts.now in
    let first = output_first parts c.requires.parts c.args.number (let h = c.if-number-len.true in let e = c.len.ensures in omega arith) in
    let same = same_Some one first.one (sym at ∙ first.at) in
    ap (λ (x : Inst). slice_get parts.cells x.cell) same ∙ ap (slice_get parts.cells) first.is ∙ c.cell_at.ensures

pub returns-in_ok-r-clause-means : goal.returns-in_ok-r-clause-means
returns-in_ok-r-clause-means c = λ settled reads knows laters know ends carried cell at.
    let parts = c.args.parts.now in
    let n = c.args.number in
    let below : n < length parts.outputs = let h = c.if-number-len.true in let e = c.len.ensures in omega arith in
    let first = output_first parts c.requires.parts n below in
    let yes : nat_lt n (length parts.outputs) ≡ true = grind (arith, common_steps) in
    let from : source parts know n ≡ Some n =
    ap (λ b. if b then instance_of n 0 parts.instances else first_carry know n parts.carries) yes ∙ first.found ∙ ap (λ (m : ℕ). Some m) (let z : 0 + n ≡ n = omega arith in z) in
    subst (λ (o : Option ℕ). ShowsStore settled c.in_ok-r.r (coming knows laters cell o)) (sym from)
    (subst (λ (x : Cell). ShowsStore settled c.in_ok-r.r (coming knows laters x (Some n))) (same_Some c.cell_at.result.now cell (sym c.cell_at.ensures ∙ at))
    (c.in_ok-r.ensures.means settled reads knows laters know ends))

pub returns-else-number-len-clause-typed : goal.returns-else-number-len-clause-typed
returns-else-number-len-clause-typed c = λ cell at.
    let stores = c.args.carried.now.items in
    c.requires.carried.each c.args.number cell c.index.result.now at
    (slice_get_read stores (length stores) c.args.number c.index.result.now refl (let e = c.requires.size in let h = c.requires.within in omega arith) c.index.ensures)

pub returns-else-number-len-clause-means : goal.returns-else-number-len-clause-means
returns-else-number-len-clause-means c = λ settled reads knows laters know ends carried cell at.
    let parts = c.args.parts.now in
    let n = c.args.number in
    let stores = c.args.carried.now.items in
    let past : length parts.outputs ≤ n = let h = c.if-number-len.false in let e = c.len.ensures in omega arith in
    let no : nat_lt n (length parts.outputs) ≡ false = grind (arith, common_steps) in
    let from : source parts know n ≡ first_carry know n parts.carries =
    ap (λ b. if b then instance_of n 0 parts.instances else first_carry know n parts.carries) no in
    subst (λ (o : Option ℕ). ShowsStore settled c.index.result.now (coming knows laters cell o)) (sym from)
    (carried n cell c.index.result.now at
    (slice_get_read stores (length stores) n c.index.result.now refl (let e = c.requires.size in let h = c.requires.within in omega arith) c.index.ensures))
