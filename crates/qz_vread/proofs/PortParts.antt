-- What is read of a port after its first word.
use Rattle.std.proofs.Common.{◌≡◌, ℕ, List, ◌++◌, None, sym, ap, ◌∙◌, codes}
use Rattle.std.proofs.lemmas.List.{append_cancel_left}
use Rattle.qz_values.specs.declared.Ty.{Ty}
use Rattle.qz_values.specs.Types.{IsType}
use Rattle.qz_vtext.specs.Spelling.{type_text}
use Rattle.qz_vread.specs.Parts.{NoFront}
use Rattle.qz_vread.specs.Reading.{Reads, HasType, HasMarked}
use Rattle.qz_vread.proofs.Finding.{nothing_found}

-- a type with a mark after it
pub marked : (mark bytes after rest : List ℕ) (t : Ty) → HasType bytes t after → after ≡ mark ++ rest → ((more : List ℕ) → NoFront (mark ++ more) (codes "[")) → HasMarked mark bytes t rest
marked mark bytes after rest t typed is clear = record {
  is = record { typed = typed.typed; whole = typed.whole ∙ ap (λ a. type_text t ++ a) is };
  only = λ u other m.
      let same = typed.only u (mark ++ other) (record { typed = m.typed; open_end = clear other; whole = m.whole }) in
      (same.0, append_cancel_left mark other rest (same.1 ∙ is));
}

pub no_type_alone : (mark bytes after text : List ℕ) (t : Ty) → HasType bytes t after → (after ≡ mark ++ text → ⊥) → ((more : List ℕ) → NoFront (mark ++ more) (codes "["))
    → Reads IsType (λ u. type_text u ++ (mark ++ text)) bytes None
no_type_alone mark bytes after text t typed none clear =
    nothing_found IsType (λ u. bytes ≡ type_text u ++ (mark ++ text))
    (λ u right e. none (sym (typed.only u (mark ++ text) (record { typed = right; open_end = clear text; whole = e })).1))
