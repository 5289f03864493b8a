use Rattle.std.proofs.Common.{◌≡◌, ℕ, List, ◌∷◌, ◌++◌, Option, Some, None, MatchOption, codes, sym, ap, ◌∙◌, append_assoc, Bor}
use Rattle.std.specs.Fmt.{decimal}
use Rattle.std.proofs.lemmas.List.{append_cancel_left}
use Rattle.qz_values.specs.declared.Ty.{Ty}
use Rattle.qz_values.specs.declared.Ty.TheVariants as ty
use Rattle.qz_vtext.specs.Spelling.{mark_text}
use Rattle.qz_vread.specs.Parts.{NoFront}
use Rattle.qz_vread.proofs.types.strip_mark.Goals as goal

vector_mark : (t : Ty) (bytes later : List ℕ) (width number : ℕ) → t ≡ ty.Bv width → number ≡ width → bytes ≡ decimal number ++ 39 ∷ later → (found : Option (Bor (List ℕ)))
    → MatchOption found (NoFront later (codes "d")) (λ rest. later ≡ codes "d" ++ rest.now)
    → MatchOption found (NoFront bytes (mark_text t)) (λ rest. bytes ≡ mark_text t ++ rest.now)
vector_mark t bytes later width number is same whole found after =
    let P : Ty → Type 0 = λ u. MatchOption found (NoFront bytes (mark_text u)) (λ rest. bytes ≡ mark_text u ++ rest.now) in
    rw is (by found after)
  where
    spaced : bytes ≡ decimal width ++ 39 ∷ later
    spaced = whole ∙ ap (λ n. decimal n ++ 39 ∷ later) same

    by : (found : Option (Bor (List ℕ))) → MatchOption found (NoFront later (codes "d")) (λ rest. later ≡ codes "d" ++ rest.now)
        → MatchOption found (NoFront bytes (decimal width ++ codes "'d")) (λ rest. bytes ≡ (decimal width ++ codes "'d") ++ rest.now)
    by None none =
        λ rest e.
        let x : 39 ∷ later ≡ 39 ∷ (codes "d" ++ rest) =
        append_cancel_left (decimal width) (39 ∷ later) (codes "'d" ++ rest) (sym spaced ∙ e ∙ append_assoc (decimal width) (codes "'d") rest) in
        none rest cc
    by (Some rest) is = spaced ∙ ap (λ l. decimal width ++ 39 ∷ l) is ∙ sym (append_assoc (decimal width) (codes "'d") rest.now)

pub returns-in_ok-strip_numbered-in-Bv : goal.returns-in_ok-strip_numbered-in-Bv
returns-in_ok-strip_numbered-in-Bv c =
    vector_mark c.args.ty c.args.bytes.now c.in_ok-strip_numbered-in-Bv.field-0.now c.in-Bv.width c.from.result c.in-Bv.is c.from.ensures
    c.in_ok-strip_numbered-in-Bv.ensures c.strip-in-Bv.result c.strip-in-Bv.ensures
