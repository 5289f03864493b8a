use Rattle.std.proofs.Common.{◌≡◌, ℕ, true, false, List, ◌∷◌, ◌++◌, sym, ap, ◌∙◌}
use Rattle.std.specs.Fmt.{decimal}
use Rattle.std.proofs.lemmas.Bool.{iff_false}
use Rattle.std.proofs.lemmas.List.{append_cancel_left}
use Rattle.qz_vread.specs.Parts.{is_word, lacks, IsSplit}
use Rattle.qz_vread.proofs.Splitting.{has_it, split_once}
use Rattle.qz_vread.proofs.RightSideLemmas.{decimal_lacks}
use Rattle.qz_vread.proofs.numbers.strip_numbered.Goals as goal

no_end : (bytes before later : List ℕ) (n end : ℕ) → bytes ≡ before ++ later → lacks end later ≡ true
    → (rest : List ℕ) → bytes ≡ before ++ (decimal n ++ end ∷ rest) → ⊥
no_end bytes before later n end whole lacked rest e =
    has_it end (decimal n) rest (ap (lacks end) (append_cancel_left before (decimal n ++ end ∷ rest) later (sym e ∙ whole)) ∙ lacked)

other_number : (bytes before later digits after : List ℕ) (n end : ℕ) → bytes ≡ before ++ later → IsSplit end later digits after → is_word end ≡ false → (digits ≡ decimal n → ⊥)
    → (rest : List ℕ) → bytes ≡ before ++ (decimal n ++ end ∷ rest) → ⊥
other_number bytes before later digits after n end whole split apart other rest e =
    let same = append_cancel_left before later (decimal n ++ end ∷ rest) (sym whole ∙ e) in
    other (split_once end digits (decimal n) after rest split.first (decimal_lacks end n apart) (sym split.whole ∙ same)).before

pub returns-in_err-digits : goal.returns-in_err-digits
returns-in_err-digits c =
    rw c.from_residual-in_err-digits.ensures
    (no_end c.args.bytes.now c.args.before.now c.in_ok-strip.field-0.now c.args.number c.args.end c.in_ok-strip.ensures c.in_err-digits.ensures)

pub returns-else-is_number : goal.returns-else-is_number
returns-else-is_number c =
    other_number c.args.bytes.now c.args.before.now c.in_ok-strip.field-0.now c.in_ok-digits.digits.now c.in_ok-digits.rest.now c.args.number c.args.end
    c.in_ok-strip.ensures c.in_ok-digits.ensures c.requires (iff_false c.is_number.ensures c.if-is_number.false)
