use Rattle.std.proofs.Common.{◌≡◌, ◌+◌, ◌&&◌, [], List, ℕ, Bool, map, drop, get_or, sym, ap, ◌∙◌, arith}
use Rattle.std.proofs.lemmas.List.{drop_more}
use Rattle.std.specs.Option.{option_or}
use Rattle.std.specs.List.{slice_get, flat_map, list_all}
use Rattle.qz_syntax.specs.declared.statements.Stmt.{Stmt}
use Rattle.qz_syntax.specs.Endings.{instant_loops, may_end_of}
use Rattle.qz_expand.proofs.EndingLemmas.{instants-parts, first-append, first-If, first-Loop, and-assoc, or-assoc}
use Rattle.qz_expand.proofs.endings.+endings.Goals as goal

pub ending_of-returns-in-If-clause-instant : goal.ending_of-returns-in-If-clause-instant
ending_of-returns-in-If-clause-instant t c =
    let one : c.ending_of.result.instant ≡ slice_get (instant_loops [] c.in-If.first) 0 = rw (← c.get.ensures) c.ending_of.ensures.instant in
    let two : c.ending_of-in-If.result.instant ≡ slice_get (instant_loops [] c.in-If.second) 0 = rw (← c.get-in-If.ensures) c.ending_of-in-If.ensures.instant in
    c.of_either.ensures.instant ∙ rw (one, two, c.in-If.is) (sym (first-If c.in-If.field-0 c.in-If.first c.in-If.second))

pub ending_of-returns-in-Loop-clause-instant : goal.ending_of-returns-in-Loop-clause-instant
ending_of-returns-in-Loop-clause-instant t c =
    let ends : c.ending_of-in-Loop.result.may_end ≡ may_end_of [] c.in-Loop.body = rw (← c.get-in-Loop.ensures) c.ending_of-in-Loop.ensures.may_end in
    let inner : c.ending_of-in-Loop.result.instant ≡ slice_get (instant_loops [] c.in-Loop.body) 0 = rw (← c.get-in-Loop.ensures) c.ending_of-in-Loop.ensures.instant in
    c.of_loop.ensures.instant ∙ rw (ends, inner, c.in-Loop.is) (sym (first-Loop c.in-Loop.number c.in-Loop.body c.in-Loop.field-2))

pub ending_of-returns-in-Seq-clause-instant : goal.ending_of-returns-in-Seq-clause-instant
ending_of-returns-in-Seq-clause-instant t c =
    let among : c.ending_of_all.result.instant ≡ slice_get (flat_map (λ (part : Stmt). instant_loops [] part) c.in-Seq.parts) 0 = rw (← c.as_slice.ensures) c.ending_of_all.ensures.instant in
    among ∙ ap (λ (xs : List ℕ). slice_get xs 0) (sym (instants-parts c.args.s.now c.in-Seq.parts c.in-Seq.is))

pub ending_of_all-loop-part-preserved : goal.ending_of_all-loop-part-preserved
ending_of_all-loop-part-preserved t c =
    let i = c.loop-part.part-index in
    let parts = c.args.parts.now in
    let split = drop_more parts i c.part-item.result (omega arith) in
    let part = get_or parts i c.part-item.result in
    let rest = drop (i + 1) parts in
    let ends : c.ending_of.result.may_end ≡ may_end_of [] part = rw (← c.part-item.is) c.ending_of.ensures.may_end in
    let first : c.ending_of.result.instant ≡ slice_get (instant_loops [] part) 0 = rw (← c.part-item.is) c.ending_of.ensures.instant in
    record {
      ends = ap (λ (b : Bool). b && list_all (λ e. e) (map (λ p. may_end_of [] p) rest)) (c.after-all.ensures.may_end ∙ ap (λ (b : Bool). c.loop-part.all.may_end && b) ends)
          ∙ and-assoc c.loop-part.all.may_end (may_end_of [] part) (list_all (λ e. e) (map (λ p. may_end_of [] p) rest))
          ∙ sym (ap (λ (ps : List Stmt). c.loop-part.all.may_end && list_all (λ e. e) (map (λ p. may_end_of [] p) ps)) split)
          ∙ c.loop-part.invariant.ends;
      instant = ap (λ o. option_or o (slice_get (flat_map (λ p. instant_loops [] p) rest) 0)) (c.after-all.ensures.instant ∙ ap (λ o. option_or c.loop-part.all.instant o) first)
          ∙ or-assoc c.loop-part.all.instant (slice_get (instant_loops [] part) 0) (slice_get (flat_map (λ p. instant_loops [] p) rest) 0)
          ∙ ap (λ o. option_or c.loop-part.all.instant o) (sym (first-append (instant_loops [] part) (flat_map (λ p. instant_loops [] p) rest)))
          ∙ sym (ap (λ (ps : List Stmt). option_or c.loop-part.all.instant (slice_get (flat_map (λ p. instant_loops [] p) ps) 0)) split)
          ∙ c.loop-part.invariant.instant;
    }
