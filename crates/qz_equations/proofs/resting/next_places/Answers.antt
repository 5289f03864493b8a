use Rattle.std.proofs.Common.{◌≡◌, ◌+◌, ◌||◌, ◌&&◌, ◌==◌, ℕ, Bool, false, List, [], refl, ap, sym, ◌∙◌, get_or, drop}
use Rattle.std.specs.List.{list_any}
use Rattle.std.proofs.lemmas.List.{drop_more, drop_all}
use Rattle.qz_values.specs.Knowledge.{knows_yes}
use Rattle.qz_nets.specs.declared.net.NetId.{NetId}
use Rattle.qz_wires.proofs.Through.{through}
use Rattle.qz_equations.proofs.Keeping.{last_kept}
use Rattle.qz_equations.proofs.FlagLemmas.{or_assoc, or_nothing}
use Rattle.qz_equations.proofs.resting.next_places.Goals as goal

abbrev no_next : ℕ × NetId
no_next = (0, record { 0 = 0 })

pub loop-entry-init : goal.loop-entry-init
loop-entry-init c = record {
  extends = c.in_ok-flags.ensures.extends;
  size = c.in_ok-flags.ensures.size ∙ c.len.ensures;
  typed = c.in_ok-flags.ensures.typed;
  shown = λ settled reads knows laters know ends. ((λ (n : ℕ). false), c.in_ok-flags.ensures.means settled reads, (λ n. refl));
}

pub add_next-requires-clause-last : goal.add_next-requires-clause-last
add_next-requires-clause-last c = last_kept c.loop-entry.invariant.extends c.requires.last

pub loop-entry-preserved : goal.loop-entry-preserved
loop-entry-preserved c = record {
  extends = through c.loop-entry.invariant.extends c.in_ok-add_next.ensures.extends;
  size = c.in_ok-add_next.ensures.size;
  typed = c.in_ok-add_next.ensures.typed;
  shown = λ settled reads knows laters know ends.
      let before = c.loop-entry.invariant.shown settled (c.in_ok-add_next.ensures.extends.reads settled reads) knows laters know ends in
      let entries = c.as_slice-entry-items.result.now in
      let i = c.loop-entry.entry-index in
      let entry = get_or entries i no_next in
      let p : ℕ → ℕ × NetId → Bool = λ n one. (one.0 == n) && knows_yes (know one.1.0) in (
        (λ n. before.0 n || p n entry),
        c.in_ok-add_next.ensures.means settled reads knows laters know ends before.0 before.1,
        (λ n. ap (λ (all : List (ℕ × NetId)). (before.0 n || p n entry) || list_any (p n) (drop (i + 1) all)) (sym c.as_slice-entry-items.ensures)
            ∙ or_assoc (before.0 n) (p n entry) (list_any (p n) (drop (i + 1) entries))
            ∙ ap (λ (rest : List (ℕ × NetId)). before.0 n || list_any (p n) rest) (sym (drop_more entries i no_next c.loop-entry-test.true) ∙ ap (drop i) c.as_slice-entry-items.ensures)
            ∙ before.2 n),
      );
}

pub returns-clause-means : goal.returns-clause-means
returns-clause-means c = λ settled reads knows laters know ends n net at.
    let h = c.loop-entry.invariant.shown settled reads knows laters know ends in
    let p : ℕ × NetId → Bool = λ one. (one.0 == n) && knows_yes (know one.1.0) in
    let none : drop c.loop-entry.entry-index c.args.parts.now.nexts ≡ [] =
    ap (drop c.loop-entry.entry-index) (sym c.as_slice-entry-items.ensures) ∙ drop_all c.loop-entry.entry-index c.as_slice-entry-items.result.now c.loop-entry-test.false in
    h.1 n net at ∙ sym (or_nothing (h.0 n)) ∙ ap (λ (rest : List (ℕ × NetId)). h.0 n || list_any p rest) (sym none) ∙ h.2 n
