use Rattle.std.proofs.Common.{◌≡◌, ℕ, List, ◌++◌, Option, Some, None, MatchOption, sym, ap, ◌∙◌, Bor}
use Rattle.std.proofs.lemmas.List.{append_cancel_left}
use Rattle.qz_vread.specs.Parts.{NoEnd}
use Rattle.qz_vread.proofs.bytes.between.Goals as goal

both_ends : (bytes before rest after : List ℕ) → bytes ≡ before ++ rest → (found : Option (Bor (List ℕ)))
    → MatchOption found (NoEnd rest after) (λ front. rest ≡ front.now ++ after)
    → MatchOption found ((inner : List ℕ) → bytes ≡ before ++ (inner ++ after) → ⊥) (λ inner. bytes ≡ before ++ (inner.now ++ after))
both_ends bytes before rest after whole None none = λ inner e. none inner (append_cancel_left before rest (inner ++ after) (sym whole ∙ e))
both_ends bytes before rest after whole (Some front) is = whole ∙ ap (λ r. before ++ r) is

pub returns : goal.returns
returns c = both_ends c.args.bytes.now c.args.before.now c.in_ok-strip.field-0.now c.args.after.now c.in_ok-strip.ensures c.strip_end.result c.strip_end.ensures
