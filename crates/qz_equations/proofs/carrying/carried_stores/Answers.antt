use Rattle.std.proofs.Common.{◌≡◌, ◌<◌, ◌+◌, ◌-◌, ◌==◌, ◌&&◌, ℕ, Option, Some, None, ap, sym, subst, ◌∙◌, arith, length, get_or, drop, if◌then◌else◌}
use Rattle.std.proofs.lemmas.List.{drop_more, drop_all}
use Rattle.qz_values.specs.Knowledge.{knows_yes}
use Rattle.qz_system.specs.declared.parts.Carry.{Carry}
use Rattle.qz_system.specs.Nexts.{first_carry}
use Rattle.qz_wires.proofs.Through.{through}
use Rattle.qz_equations.specs.Tallies.{ShowsStore}
use Rattle.qz_equations.specs.Ends.{coming}
use Rattle.qz_equations.proofs.Keeping.{last_kept}
use Rattle.qz_equations.proofs.carrying.carried_stores.Goals as goal

abbrev no_carry : Carry
no_carry = record { cell = 0; instance = 0; when = record { 0 = 0 } }

pub loop-done-init : goal.loop-done-init
loop-done-init c = record {
  extends = c.in_ok-stores.ensures.extends;
  size = c.in_ok-stores.ensures.size;
  typed = c.in_ok-stores.ensures.typed;
  shown = λ settled reads knows laters know ends n cell place at is.
      let carries = c.as_slice-carries.result.now in
      let none : first_carry know n (drop (length carries - 0) carries) ≡ None =
      ap (first_carry know n) (drop_all (length carries - 0) carries (omega arith)) in
      subst (λ (o : Option ℕ). ShowsStore settled place (coming knows laters cell o)) (sym none)
      (c.in_ok-stores.ensures.means settled reads knows laters n cell place at is);
}

pub add_carry-requires-clause-last : goal.add_carry-requires-clause-last
add_carry-requires-clause-last c = last_kept c.loop-done.invariant.extends c.requires.last

pub loop-done-preserved : goal.loop-done-preserved
loop-done-preserved c = record {
  extends = through c.loop-done.invariant.extends c.in_ok-add_carry.ensures.extends;
  size = c.in_ok-add_carry.ensures.size;
  typed = c.in_ok-add_carry.ensures.typed;
  shown = λ settled reads knows laters know ends n cell place at is.
      let carries = c.as_slice-carries.result.now in
      let done = c.loop-done.done in
      let within : done < length carries = omega arith in
      let i = length carries - 1 - done in
      let carry = get_or carries i no_carry in
      let before : length carries - done ≡ i + 1 = omega (arith, within) in
      let after : i ≡ length carries - (done + 1) = omega (arith, within) in
      let inside : i < length carries = omega (arith, within) in
      let step = ap (λ m. if (carry.cell == n) && knows_yes (know carry.when.0) then Some carry.instance else first_carry know n (drop m carries)) before
      ∙ sym (ap (first_carry know n) (drop_more carries i no_carry inside))
      ∙ ap (λ m. first_carry know n (drop m carries)) after in
      subst (λ (o : Option ℕ). ShowsStore settled place (coming knows laters cell o)) step
      (c.in_ok-add_carry.ensures.means settled reads knows laters know ends (λ m. first_carry know m (drop (length carries - done) carries))
      (c.loop-done.invariant.shown settled (c.in_ok-add_carry.ensures.extends.reads settled reads) knows laters know ends) n cell place at is);
}

pub returns-clause-means : goal.returns-clause-means
returns-clause-means c = λ settled reads knows laters know ends n cell place at is.
    let carries = c.as_slice-carries.result.now in
    let none : length carries - c.loop-done.done ≡ 0 = let h = c.loop-done-test.false in omega arith in
    let all = ap (λ m. first_carry know n (drop m carries)) none ∙ ap (first_carry know n) c.as_slice-carries.ensures in
    subst (λ (o : Option ℕ). ShowsStore settled place (coming knows laters cell o)) all
    (c.loop-done.invariant.shown settled reads knows laters know ends n cell place at is)
