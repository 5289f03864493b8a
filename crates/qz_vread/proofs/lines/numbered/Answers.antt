use Rattle.std.proofs.Common.{◌≡◌, ℕ, List, ◌∷◌, ◌++◌, Option, Some, None, MatchOption, Bor, sym, ap, ◌∙◌, codes}
use Rattle.std.specs.Fmt.{decimal}
use Rattle.std.proofs.lemmas.List.{append_cancel_left}
use Rattle.qz_vread.specs.Reading.{numbered_line}
use Rattle.qz_vread.proofs.lines.numbered.Goals as goal

after_number : (line before after rest : List ℕ) (n : ℕ) → line ≡ before ++ (decimal n ++ 32 ∷ rest) → (found : Option (Bor (List ℕ)))
    → MatchOption found ((inner : List ℕ) → rest ≡ after ++ (inner ++ codes ";") → ⊥) (λ inner. rest ≡ after ++ (inner.now ++ codes ";"))
    → MatchOption found ((text : List ℕ) → line ≡ numbered_line before n after text → ⊥) (λ text. line ≡ numbered_line before n after text.now)
after_number line before after rest n whole None none =
    λ text e.
    none text
    (append_cancel_left (codes " ") rest (after ++ (text ++ codes ";"))
    (append_cancel_left (decimal n) (32 ∷ rest) (codes " " ++ (after ++ (text ++ codes ";")))
    (append_cancel_left before (decimal n ++ 32 ∷ rest) (decimal n ++ (codes " " ++ (after ++ (text ++ codes ";")))) (sym whole ∙ e))))
after_number line before after rest n whole (Some text) is = whole ∙ ap (λ r. before ++ (decimal n ++ 32 ∷ r)) is

pub returns : goal.returns
returns c =
    after_number c.args.line.now c.args.before.now c.args.after.now c.in_ok-strip_numbered.field-0.now c.args.number c.in_ok-strip_numbered.ensures c.between.result c.between.ensures
