use Rattle.std.proofs.Common.{rules, ◌≡◌, ℕ, ◌+◌, ◌-◌, ◌<◌, suc, [], ◌∷◌, ◌++◌, map, sym, ap, ◌∙◌, append_assoc, arith}
use Rattle.std.specs.Fmt.{decimal}
use Rattle.std.specs.List.{range_with_len}
use Rattle.qz_expand.proofs.texts.loop_texts.Goals as goal

-- the numbers from one on begin with it
one_more : (from limit : ℕ) → from < limit → range_with_len from (limit - from) ≡ from ∷ range_with_len (from + 1) (limit - (from + 1))
one_more from limit h = let e : limit - from ≡ suc (limit - (from + 1)) = omega arith in ap (λ n. range_with_len from n) e

pub loop-number-preserved : goal.loop-number-preserved
loop-number-preserved c =
    let n = c.loop-number.number-counter in
    let rest = map decimal (range_with_len (n + 1) (c.args.loops - (n + 1))) in
    let old = c.loop-number.texts.items in
    let grown : c.push.new.self.items ≡ old ++ decimal n ∷ [] = search rules in
    ap (λ xs. xs ++ rest) grown ∙ append_assoc old (decimal n ∷ []) rest
    ∙ ap (λ xs. old ++ map decimal xs) (sym (one_more n c.args.loops (omega arith))) ∙ c.loop-number.invariant
