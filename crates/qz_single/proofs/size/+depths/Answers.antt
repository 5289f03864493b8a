use Rattle.std.proofs.Common.{◌≡◌, ◌+◌, ◌-◌, Bool, true, false, nat_lt, max, fold, map, List, drop, get_or, ℕ, sym, ap, ◌∙◌, arith}
use Rattle.std.proofs.lemmas.List.{drop_more}
use Rattle.qz_syntax.specs.declared.statements.Stmt.{Stmt}
use Rattle.qz_syntax.specs.Numbers.{depth_of}
use Rattle.qz_expand.proofs.DepthLemmas.{depth-parts, lt-below, lt-first, lt-others}
use Rattle.qz_single.proofs.size.+depths.Goals as goal

pub is_deeper-returns-in-Seq : goal.is_deeper-returns-in-Seq
is_deeper-returns-in-Seq t c =
    let among : c.any_is_deeper.result ≡ nat_lt (c.args.limit - 1) (fold max 0 (map depth_of c.in-Seq.parts)) = rw (← c.as_slice.ensures) c.any_is_deeper.ensures in
    among ∙ lt-below c.args.limit (fold max 0 (map depth_of c.in-Seq.parts)) (omega arith)
    ∙ ap (nat_lt c.args.limit) (sym (depth-parts c.args.s.now c.in-Seq.parts c.in-Seq.is))

-- the members from one on
abbrev above : ℕ → List Stmt → Bool
above limit parts = nat_lt limit (fold max 0 (map depth_of parts))

pub any_is_deeper-returns-then-is_deeper : goal.any_is_deeper-returns-then-is_deeper
any_is_deeper-returns-then-is_deeper t c =
    let i = c.loop-part.part-index in
    let split = drop_more c.args.parts.now i c.part-item.result (omega arith) in
    let part = get_or c.args.parts.now i c.part-item.result in
    let found : nat_lt c.args.limit (depth_of part) ≡ true = rw (← c.part-item.is) (sym c.if-is_deeper.ensures) in
    sym (ap (above c.args.limit) split ∙ lt-first c.args.limit (depth_of part) (map depth_of (drop (i + 1) c.args.parts.now)) found) ∙ c.loop-part.invariant

pub any_is_deeper-loop-part-preserved : goal.any_is_deeper-loop-part-preserved
any_is_deeper-loop-part-preserved t c =
    let i = c.loop-part.part-index in
    let split = drop_more c.args.parts.now i c.part-item.result (omega arith) in
    let part = get_or c.args.parts.now i c.part-item.result in
    let found : nat_lt c.args.limit (depth_of part) ≡ false = rw (← c.part-item.is) (sym c.if-is_deeper.ensures) in
    sym (ap (above c.args.limit) split ∙ lt-others c.args.limit (depth_of part) (map depth_of (drop (i + 1) c.args.parts.now)) found) ∙ c.loop-part.invariant
