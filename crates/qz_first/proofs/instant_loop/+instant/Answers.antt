use Rattle.std.proofs.Common.{◌≡◌, ◌+◌, [], List, ℕ, true, false, Some, None, drop, get_or, sym, ◌∙◌, ap, refl, arith}
use Rattle.std.specs.List.{slice_get, flat_map}
use Rattle.std.proofs.lemmas.List.{drop_more}
use Rattle.qz_syntax.specs.declared.statements.Stmt.{Stmt}
use Rattle.qz_syntax.specs.Endings.{instant_loops, may_end_of}
use Rattle.qz_first.proofs.InstantLemmas.{first-some, first-none, instants-If, instants-parts, instants-Loop_own, instants-Loop_inner}
use Rattle.qz_first.proofs.instant_loop.+instant.Goals as goal

pub instant_loop-returns-then-may_end : goal.instant_loop-returns-then-may_end
instant_loop-returns-then-may_end t c =
    let ends : may_end_of [] c.in-Loop.body ≡ true = rw (← c.get-in-Loop.ensures) (sym c.if-may_end.ensures) in
    rw (c.in-Loop.is, instants-Loop_own c.in-Loop.turn c.in-Loop.body c.in-Loop.field-2 ends) refl

pub instant_loop-returns-in-Some : goal.instant_loop-returns-in-Some
instant_loop-returns-in-Some t c =
    let found : slice_get (instant_loops [] c.in-If.first) 0 ≡ Some c.in-Some.turn = rw (← c.get.ensures) (sym c.in-Some.ensures) in
    rw (c.in-If.is, instants-If c.in-If.field-0 c.in-If.first c.in-If.second)
    (sym (first-some (instant_loops [] c.in-If.first) (instant_loops [] c.in-If.second) c.in-Some.turn found))

pub instant_loop-returns-in-None : goal.instant_loop-returns-in-None
instant_loop-returns-in-None t c =
    let none : slice_get (instant_loops [] c.in-If.first) 0 ≡ None = rw (← c.get.ensures) (sym c.in-None.ensures) in
    let second : c.instant_loop-in-None.result ≡ slice_get (instant_loops [] c.in-If.second) 0 = rw (← c.get-in-None.ensures) c.instant_loop-in-None.ensures in
    rw (c.in-If.is, instants-If c.in-If.field-0 c.in-If.first c.in-If.second)
    (second ∙ sym (first-none (instant_loops [] c.in-If.first) (instant_loops [] c.in-If.second) none))

pub instant_loop-returns-else-may_end : goal.instant_loop-returns-else-may_end
instant_loop-returns-else-may_end t c =
    let stays : may_end_of [] c.in-Loop.body ≡ false = rw (← c.get-in-Loop.ensures) (sym c.if-may_end.ensures) in
    let inner : c.instant_loop-in-Loop.result ≡ slice_get (instant_loops [] c.in-Loop.body) 0 = rw (← c.get-in-Loop-2.ensures) c.instant_loop-in-Loop.ensures in
    rw (c.in-Loop.is, instants-Loop_inner c.in-Loop.turn c.in-Loop.body c.in-Loop.field-2 stays) inner

pub instant_loop-returns-in-Seq : goal.instant_loop-returns-in-Seq
instant_loop-returns-in-Seq t c =
    let among : c.instant_loop_among.result ≡ slice_get (flat_map (λ (part : Stmt). instant_loops [] part) c.in-Seq.parts) 0 = rw (← c.as_slice.ensures) c.instant_loop_among.ensures in
    among ∙ ap (λ (xs : List ℕ). slice_get xs 0) (sym (instants-parts c.args.s.now c.in-Seq.parts c.in-Seq.is))

pub instant_loop_among-returns-in-Some : goal.instant_loop_among-returns-in-Some
instant_loop_among-returns-in-Some t c =
    let i = c.loop-part.part-index in
    let split = drop_more c.args.parts.now i c.part-item.result (omega arith) in
    let whole = ap (λ (xs : List Stmt). slice_get (flat_map (λ part. instant_loops [] part) xs) 0) split in
    let found : slice_get (instant_loops [] (get_or c.args.parts.now i c.part-item.result)) 0 ≡ Some c.in-Some.turn = rw (← c.part-item.is) (sym c.in-Some.ensures) in
    sym (first-some (instant_loops [] (get_or c.args.parts.now i c.part-item.result)) (flat_map (λ (part : Stmt). instant_loops [] part) (drop (i + 1) c.args.parts.now)) c.in-Some.turn found) ∙ sym whole ∙ c.loop-part.invariant

pub instant_loop_among-loop-part-preserved : goal.instant_loop_among-loop-part-preserved
instant_loop_among-loop-part-preserved t c =
    let i = c.loop-part.part-index in
    let split = drop_more c.args.parts.now i c.part-item.result (omega arith) in
    let whole = ap (λ (xs : List Stmt). slice_get (flat_map (λ part. instant_loops [] part) xs) 0) split in
    let none : slice_get (instant_loops [] (get_or c.args.parts.now i c.part-item.result)) 0 ≡ None = rw (← c.part-item.is) (sym c.in_default.ensures) in
    sym (first-none (instant_loops [] (get_or c.args.parts.now i c.part-item.result)) (flat_map (λ (part : Stmt). instant_loops [] part) (drop (i + 1) c.args.parts.now)) none)
    ∙ sym whole ∙ c.loop-part.invariant
